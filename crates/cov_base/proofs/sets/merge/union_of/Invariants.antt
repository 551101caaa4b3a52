use Rattle.std.proofs.Common.{◌≡◌, [], drop}
use Rattle.cov_base.specs.Intervals.{joins, merged}
use Rattle.cov_base.proofs.sets.merge.union_of.Given as goal

abbrev pub invariant-loop-range : goal.invariant-loop-range
invariant-loop-range l = joins l.out.items (merged (drop l.range-index l.left) l.rest) ≡ joins [] (merged l.left l.fn.right)
