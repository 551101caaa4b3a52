use Rattle.std.proofs.Common.{◌≡◌, ℤ, Some}
use Rattle.point_tables.specs.Tables.{key, AreResting}
use Rattle.point_tables.proofs.entrances.first_at.Given as goal

abbrev pub invariant-loop-k : goal.invariant-loop-k
invariant-loop-k l = (number : ℤ) → l.key ≡ key number → AreResting l.entrances l.runs (Some number) l.from l.k
