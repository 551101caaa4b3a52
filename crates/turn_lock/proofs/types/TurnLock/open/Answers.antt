use Rattle.std.proofs.Common.{rules}
use Rattle.turn_lock.proofs.Opening.{opens_as}
use Rattle.turn_lock.specs.Seats.{home, number_of, free, left, opened, seen, IsOf, turn_number, turn_free, turn_left, turn_opened, taken, IsTurnOf}
use Rattle.turn_lock.proofs.types.TurnLock.open.Goals as goal

pub new-requires-2 : goal.new-requires-2
unfolding home number_of free left opened seen IsOf turn_number turn_free turn_left turn_opened taken IsTurnOf
new-requires-2 g c = opens_as _ _ _ _ c.in_ok-value.value _ _ _ _ _ _ (search rules) (search rules) (search rules) (search rules) (search rules) (search rules) (search rules) (g.met.T.Book.is_sound c.of.result.value)
