use Rattle.std.proofs.Common.{take}
use Rattle.point_tables.specs.Keys.{AreListed}
use Rattle.point_tables.proofs.lookups.listed_of.Given as goal

abbrev pub invariant-loop-bin : goal.invariant-loop-bin
invariant-loop-bin l = AreListed (take l.bin-index l.bins) l.ranges.items
