use Rattle.std.proofs.Common.{rules}
use Rattle.turn_lock.specs.Views.{taken_of, ticket_of}
use Rattle.turn_lock.proofs.Keeps.{passes_as}
use Rattle.turn_lock.proofs.Told.{own_given}
use Rattle.turn_lock.specs.Seats.{home, number_of, free, left, opened, seen, IsOf, turn_number, turn_free, turn_left, turn_opened, taken, IsTurnOf}
use Rattle.turn_lock.proofs.types.TurnLock.give.Goals as goal

pub fetch_add-requires : goal.fetch_add-requires
unfolding home number_of free left opened seen IsOf turn_number turn_free turn_left turn_opened taken IsTurnOf
fetch_add-requires g c =
    (search rules, search rules, passes_as _ _ _ _ _ _ _ _ _ c.exchange-old.new.seat.me (ticket_of c.args.turn.place.me.0.stage) c.args.value (search rules) c.requires.base)

pub returns-clause-more : goal.returns-clause-more
unfolding home number_of free left opened seen IsOf turn_number turn_free turn_left turn_opened taken IsTurnOf
returns-clause-more g c e is =
    let before = c.args.turn.place.me.0 in
    let after = c.fetch_add.new.seat.me.0 in
    own_given g.T.Book.number before.who.number after.who.number before.who.opened after.who.opened (taken_of before.stage) after.seen (g.T.Book.entries c.args.value.value) e
    (search rules) (search rules) (search rules) is c.args.turn.past c.requires.entries
