use Rattle.std.proofs.Common.{◌≡◌, ◌++◌, drop}
use Rattle.cov_base.specs.Sets.{written}
use Rattle.value_bins.proofs.distinct.numbers_of.Given as goal

abbrev pub invariant-loop-range : goal.invariant-loop-range
invariant-loop-range l = l.numbers.items ++ written (drop l.range-index l.ranges) ≡ written l.ranges
