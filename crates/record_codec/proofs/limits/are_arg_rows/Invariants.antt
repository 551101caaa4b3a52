use Rattle.std.proofs.Common.{take}
use Rattle.std.specs.List.{AllByRecursion}
use Rattle.record_codec.specs.Limits.{IsArgRow}
use Rattle.record_codec.proofs.limits.are_arg_rows.Given as goal

abbrev pub invariant-loop-row : goal.invariant-loop-row
invariant-loop-row l = AllByRecursion IsArgRow (take l.row-index l.rows)
