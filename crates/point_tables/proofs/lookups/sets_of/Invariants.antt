use Rattle.std.proofs.Common.{take}
use Rattle.point_tables.specs.Keys.{AreSetsOf}
use Rattle.point_tables.proofs.lookups.sets_of.Given as goal

abbrev pub invariant-loop-bin : goal.invariant-loop-bin
invariant-loop-bin l = AreSetsOf l.item.bins l.least (take l.bin-index l.item.bins) l.sets.items
