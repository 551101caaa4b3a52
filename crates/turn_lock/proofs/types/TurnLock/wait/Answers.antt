use Rattle.std.proofs.Common.{rules, ap, ◌∙◌}
use Rattle.turn_lock.specs.Views.{inside}
use Rattle.turn_lock.proofs.Keeps.{looks}
use Rattle.turn_lock.proofs.Told.{served_told, slot_told}
use Rattle.turn_lock.specs.Seats.{home, number_of, free, left, opened, seen, IsOf, turn_number, turn_free, turn_left, turn_opened, taken, IsTurnOf}
use Rattle.turn_lock.proofs.types.TurnLock.wait.Goals as goal

pub load-found-requires : goal.load-found-requires
unfolding home number_of free left opened seen IsOf turn_number turn_free turn_left turn_opened taken IsTurnOf
load-found-requires g c =
    let w = c.requires.drawn in
    let me = c.loop.invariant.1 in
    (search rules, search rules, looks _ _ _ _ _ _ _ _ _ _ w.0 _ (ap (λ m. m.0.stage) (me ∙ w.2)) (ap (λ m. m.0.base) me ∙ c.requires.base))

pub exchange-requires : goal.exchange-requires
unfolding home number_of free left opened seen IsOf turn_number turn_free turn_left turn_opened taken IsTurnOf
exchange-requires g c =
    let t = served_told (inside g.T.Book.base) (inside g.T.Book.entries) g.T.Book.number c.args.self.now.table.shared.table_id.slots c.args.ticket _ c.args.place.now.me _ c.load-found.new.seat.me _ c.requires.drawn c.requires.base c.loop.invariant.1 c.load-found.ensures.2 (search rules) in
    (search rules, slot_told (inside g.T.Book.base) (inside g.T.Book.entries) g.T.Book.number c.requires.drawn.0 c.args.place.now.me c.load-found.new.seat.me t)
