use Rattle.std.proofs.Common.{ℕ, ◌<◌, ◌++◌, drop}
use Rattle.cov_counting.specs.Steps.{Keeps}
use Rattle.cov_counting.proofs.points.counts.Given as goal

abbrev pub invariant-loop-from : goal.invariant-loop-from
invariant-loop-from l = (k : ℕ) → k < l.from → Keeps l.seqs (l.ignored ++ l.illegal) (drop k l.values) → ⊥
