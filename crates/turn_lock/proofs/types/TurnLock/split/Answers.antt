use Rattle.std.proofs.Common.{rules, ap}
use Rattle.turn_lock.proofs.Keeps.{numbers, splits}
use Rattle.turn_lock.proofs.Told.{number_told}
use Rattle.turn_lock.specs.Seats.{home, number_of, free, left, opened, seen, IsOf, turn_number, turn_free, turn_left, turn_opened, taken, IsTurnOf}
use Rattle.turn_lock.proofs.types.TurnLock.split.Goals as goal

pub fetch_add-number-requires : goal.fetch_add-number-requires
unfolding home number_of free left opened seen IsOf turn_number turn_free turn_left turn_opened taken IsTurnOf
fetch_add-number-requires g c = (search rules, search rules, numbers _ _ _ _ _ _ _ _ _ _ (ap (λ m. m.0.stage) c.args.seat.now.rests) c.args.seat.now.settled c.requires.room.1)

pub split_seat-place-requires : goal.split_seat-place-requires
unfolding home number_of free left opened seen IsOf turn_number turn_free turn_left turn_opened taken IsTurnOf
split_seat-place-requires g c = (search rules, search rules, splits _ _ _ _ _ _ _ _ _ c.fetch_add-number.result (search rules) (search rules) (search rules))

pub returns-clause-new_number : goal.returns-clause-new_number
unfolding home number_of free left opened seen IsOf turn_number turn_free turn_left turn_opened taken IsTurnOf
returns-clause-new_number g c = (number_told g.T.Book.number c.args.seat.now.place.me c.fetch_add-number.new.seat.me c.fetch_add-number.result c.split_seat-place.result.me.0 c.fetch_add-number.ensures.2 (search rules)).0

pub returns-clause-new_own : goal.returns-clause-new_own
unfolding home number_of free left opened seen IsOf turn_number turn_free turn_left turn_opened taken IsTurnOf
returns-clause-new_own g c = (number_told g.T.Book.number c.args.seat.now.place.me c.fetch_add-number.new.seat.me c.fetch_add-number.result c.split_seat-place.result.me.0 c.fetch_add-number.ensures.2 (search rules)).1
