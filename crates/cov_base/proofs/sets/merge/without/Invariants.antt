use Rattle.std.proofs.Common.{◌≡◌, ◌++◌, drop}
use Rattle.cov_base.specs.Intervals.{less}
use Rattle.cov_base.proofs.sets.merge.without.Given as goal

abbrev pub invariant-loop-range : goal.invariant-loop-range
invariant-loop-range l = l.out.items ++ less (drop l.range-index l.intervals) l.rest ≡ less l.intervals l.fn.holes
