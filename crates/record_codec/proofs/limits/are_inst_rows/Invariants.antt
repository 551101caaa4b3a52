use Rattle.std.proofs.Common.{take}
use Rattle.std.specs.List.{AllByRecursion}
use Rattle.record_codec.specs.Limits.{IsInstRow}
use Rattle.record_codec.proofs.limits.are_inst_rows.Given as goal

abbrev pub invariant-loop-row : goal.invariant-loop-row
invariant-loop-row l = AllByRecursion (IsInstRow l.version) (take l.row-index l.rows)
