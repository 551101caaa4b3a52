use Rattle.std.proofs.Common.{rules, ap}
use Rattle.turn_lock.proofs.Keeps.{merges, learns}
use Rattle.turn_lock.proofs.Told.{own_merged}
use Rattle.turn_lock.specs.Seats.{home, number_of, free, left, opened, seen, IsOf, turn_number, turn_free, turn_left, turn_opened, taken, IsTurnOf}
use Rattle.turn_lock.proofs.types.TurnLock.end.Goals as goal

pub join_seat-requires : goal.join_seat-requires
unfolding home number_of free left opened seen IsOf turn_number turn_free turn_left turn_opened taken IsTurnOf
join_seat-requires g c = (search rules, search rules, search rules, search rules, merges _ _ _ _ _ _ _ _ _ _ _ (ap (λ m. m.0.stage) c.args.into.now.rests) (ap (λ m. m.0.stage) c.args.seat.rests) c.requires.into.is_of.1 c.requires.seat.is_of.1)

pub load-into-requires : goal.load-into-requires
unfolding home number_of free left opened seen IsOf turn_number turn_free turn_left turn_opened taken IsTurnOf
load-into-requires g c = (search rules, search rules, learns _ _ _ _ _ _ _ _ c.join_seat.new.seat.id c.join_seat.new.seat.me (search rules) (search rules))

pub returns-clause-into : goal.returns-clause-into
unfolding home number_of free left opened seen IsOf turn_number turn_free turn_left turn_opened taken IsTurnOf
returns-clause-into g c = record { is_of = (search rules, search rules); is_sound = ∣ c.load-into.ensures.2.3 _ (search rules) ∣₁ }

pub returns-clause-own : goal.returns-clause-own
unfolding home number_of free left opened seen IsOf turn_number turn_free turn_left turn_opened taken IsTurnOf
returns-clause-own g c = own_merged g.T.Book.number g.T.Book.sound c.args.into.now.place.me.0 c.args.seat.place.me.0 c.args.into.now.place.me.1 c.join_seat.new.seat.me c.load-into.new.seat.me c.load-into.result (search rules) c.load-into.ensures.2
