use Rattle.std.proofs.Common.{◌≡◌, ◌++◌, length, map}
use Rattle.cov_counting.specs.Tables.{arg_row}
use Rattle.cov_counting.proofs.tables.all_arg_rows.Given as goal

abbrev pub invariant-loop-arg : goal.invariant-loop-arg
invariant-loop-arg l = l.rows ++ map arg_row l.rest ≡ map arg_row l.args

abbrev pub decreases-loop-arg : goal.decreases-loop-arg
decreases-loop-arg l = length l.rest
