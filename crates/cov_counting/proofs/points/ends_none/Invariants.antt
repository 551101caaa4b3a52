use Rattle.std.proofs.Common.{ℕ, ◌<◌, drop}
use Rattle.trans_seq.specs.Windows.{InSome}
use Rattle.cov_counting.proofs.points.ends_none.Given as goal

abbrev pub invariant-loop-from : goal.invariant-loop-from
invariant-loop-from l = (k : ℕ) → k < l.from → InSome l.seqs (drop k l.values) → ⊥
