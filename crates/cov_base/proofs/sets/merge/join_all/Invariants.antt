use Rattle.std.proofs.Common.{◌≡◌, drop}
use Rattle.cov_base.specs.Intervals.{joins}
use Rattle.cov_base.proofs.sets.merge.join_all.Given as goal

abbrev pub invariant-loop-range : goal.invariant-loop-range
invariant-loop-range l = joins l.out.items (drop l.range-index l.ranges) ≡ joins l.initial.out.items l.ranges
