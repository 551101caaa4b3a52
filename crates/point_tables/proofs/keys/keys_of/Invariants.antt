use Rattle.std.proofs.Common.{◌≡◌, map, take}
use Rattle.point_tables.specs.Keys.{range_at}
use Rattle.point_tables.proofs.keys.keys_of.Given as goal

abbrev pub invariant-loop-range : goal.invariant-loop-range
invariant-loop-range l = map (range_at l.least) l.spans.items ≡ take l.range-index l.set
