use Rattle.std.proofs.Common.{◌≡◌, ◌++◌}
use Rattle.cov_base.specs.Sets.{count_from}
use Rattle.value_bins.proofs.distinct.add_numbers.Given as goal

abbrev pub invariant-loop-offset : goal.invariant-loop-offset
invariant-loop-offset l = l.numbers.items ≡ l.initial.numbers.items ++ count_from l.low l.offset
