use Rattle.std.proofs.Common.{rules, sym, subst}
use Rattle.turn_lock.proofs.Keeps.{fixes_as}
use Rattle.turn_lock.specs.Seats.{home, number_of, free, left, opened, seen, IsOf, turn_number, turn_free, turn_left, turn_opened, taken, IsTurnOf}
use Rattle.turn_lock.proofs.types.TurnLock.fix.Goals as goal

pub fetch_add-requires : goal.fetch_add-requires
unfolding home number_of free left opened seen IsOf turn_number turn_free turn_left turn_opened taken IsTurnOf
fetch_add-requires g c =
    let n = c.requires.news in (
      search rules,
      search rules,
      fixes_as _ _ _ _ _ _ _ _ _ _ _ g.N.News.news c.requires.served c.requires.own.1 n.1 n.2
          (subst (λ z. g.T.Book.sound z g.N.News.news) c.requires.base (subst (g.T.Book.sound (g.T.Book.base c.args.value.now)) (sym n.0) (g.met.T.Book.is_sound c.args.value.now))),
    )
