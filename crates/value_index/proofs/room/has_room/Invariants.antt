use Rattle.std.proofs.Common.{◌≡◌, ◌+◌, drop}
use Rattle.value_index.specs.Sizes.{rows_size}
use Rattle.value_index.proofs.room.has_room.Given as goal

abbrev pub invariant-loop-set : goal.invariant-loop-set
invariant-loop-set l = rows_size l.cuts l.sets + l.left ≡ l.room + rows_size l.cuts (drop l.set-index l.sets)
