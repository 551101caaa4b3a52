use Rattle.std.proofs.Common.{None}
use Rattle.point_tables.specs.Tables.{AreResting}
use Rattle.point_tables.proofs.entrances.first_at_unknown.Given as goal

abbrev pub invariant-loop-k : goal.invariant-loop-k
invariant-loop-k l = AreResting l.entrances l.runs None l.from l.k
