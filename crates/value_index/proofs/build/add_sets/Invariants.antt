use Rattle.std.proofs.Common.{take}
use Rattle.value_index.specs.Built.{Holds}
use Rattle.value_index.proofs.build.add_sets.Given as goal

abbrev pub invariant-loop-i : goal.invariant-loop-i
invariant-loop-i l = Holds l.cuts (take l.i l.sets) l.rows
