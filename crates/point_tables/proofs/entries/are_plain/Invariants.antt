use Rattle.std.proofs.Common.{take, All}
use Rattle.point_tables.specs.Tables.{IsPlain}
use Rattle.point_tables.proofs.entries.are_plain.Given as goal

abbrev pub invariant-loop-bin : goal.invariant-loop-bin
invariant-loop-bin l = All IsPlain (take l.bin-index l.bins)
