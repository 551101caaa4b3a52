use Rattle.std.proofs.Common.{◌≡◌, ◌+◌, drop}
use Rattle.value_index.specs.Sizes.{places_of}
use Rattle.value_index.proofs.room.room_beside.Given as goal

abbrev pub invariant-loop-span : goal.invariant-loop-span
invariant-loop-span l = places_of l.cuts l.spans + l.left ≡ l.room + places_of l.cuts (drop l.span-index l.spans)
