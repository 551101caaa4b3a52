use Rattle.std.proofs.lemmas.List.Sorted.{Contains-permutation, IsPermutation-sym}
use Rattle.trans_auto.proofs.PairOrder.{once_sorted, dedup-kept, dedup-only}
use Rattle.trans_auto.proofs.runs.sort_once.Goals as goal

pub returns-clause-kept : goal.returns-clause-kept
returns-clause-kept c = λ run h. dedup-kept _ _ c.dedup.ensures.filtered run (Contains-permutation _ _ run c.sort_unstable.ensures.permutation h)

pub returns-clause-only : goal.returns-clause-only
returns-clause-only c = λ run h. Contains-permutation _ _ run (IsPermutation-sym _ _ c.sort_unstable.ensures.permutation) (dedup-only _ _ c.dedup.ensures.filtered run h)

pub returns-clause-once : goal.returns-clause-once
returns-clause-once c = once_sorted _ _ c.dedup.ensures.filtered c.sort_unstable.ensures.sorted
