use Rattle.std.proofs.Common.{rules, ap}
use Rattle.turn_lock.specs.Views.{taken_of}
use Rattle.turn_lock.proofs.Keeps.{draws}
use Rattle.turn_lock.proofs.Told.{own_taken}
use Rattle.turn_lock.specs.Seats.{home, number_of, free, left, opened, seen, IsOf, turn_number, turn_free, turn_left, turn_opened, taken, IsTurnOf}
use Rattle.turn_lock.proofs.types.TurnLock.take.Goals as goal

pub fetch_add-ticket-requires : goal.fetch_add-ticket-requires
unfolding home number_of free left opened seen IsOf turn_number turn_free turn_left turn_opened taken IsTurnOf
fetch_add-ticket-requires g c = (search rules, search rules, draws _ _ _ _ _ _ _ _ _ _ (ap (λ m. m.0.stage) c.args.seat.rests))

pub returns-clause-own : goal.returns-clause-own
unfolding home number_of free left opened seen IsOf turn_number turn_free turn_left turn_opened taken IsTurnOf
returns-clause-own g c =
    let before = c.args.seat.place.me.0 in
    let after = c.wait-value.new.place.me.0 in
    own_taken g.T.Book.number before.who.number after.who.number before.who.opened after.who.opened before.seen (taken_of after.stage) (g.T.Book.entries c.wait-value.result.value)
    (search rules) (search rules) (search rules) (search rules) c.args.seat.past (search rules)
