use Rattle.std.proofs.Common.{rules, ap}
use Rattle.turn_lock.proofs.Keeps.{notes, tells, learns}
use Rattle.turn_lock.proofs.Told.{own_told}
use Rattle.turn_lock.specs.Seats.{home, number_of, free, left, opened, seen, IsOf, turn_number, turn_free, turn_left, turn_opened, taken, IsTurnOf}
use Rattle.turn_lock.proofs.types.TurnLock.tell.Goals as goal

pub split_seat-note-requires : goal.split_seat-note-requires
unfolding home number_of free left opened seen IsOf turn_number turn_free turn_left turn_opened taken IsTurnOf
split_seat-note-requires g c = (search rules, search rules, notes _ _ _ _ _ _ _ _ _)

pub join_seat-requires : goal.join_seat-requires
unfolding home number_of free left opened seen IsOf turn_number turn_free turn_left turn_opened taken IsTurnOf
join_seat-requires g c = (search rules, search rules, search rules, search rules, tells _ _ _ _ _ _ _ _ _ _ _ (ap (λ m. m.0.stage) c.args.a.now.rests) (search rules) (search rules) c.requires.a.is_of.1 (search rules))

pub load-a-requires : goal.load-a-requires
unfolding home number_of free left opened seen IsOf turn_number turn_free turn_left turn_opened taken IsTurnOf
load-a-requires g c = (search rules, search rules, learns _ _ _ _ _ _ _ _ _ _ (search rules) (search rules))

pub returns-clause-own : goal.returns-clause-own
unfolding home number_of free left opened seen IsOf turn_number turn_free turn_left turn_opened taken IsTurnOf
returns-clause-own g c = own_told g.T.Book.number g.T.Book.sound c.args.a.now.place.me.0 c.split_seat-note.result.me.0 c.args.a.now.place.me.1 c.join_seat.new.seat.me c.load-a.new.seat.me c.load-a.result (search rules) c.load-a.ensures.2
