use Rattle.std.proofs.Common.{◌≡◌, ◌≤◌, take}
use Rattle.std.specs.Prelude.{nat_lt, count_by}
use Rattle.history_answers.proofs.amounts.hit.Given as goal

abbrev pub invariant-loop-count : goal.invariant-loop-count
invariant-loop-count l = (l.hit ≡ count_by (nat_lt 0) (take l.count-index l.counts)) × (l.hit ≤ l.count-index)
