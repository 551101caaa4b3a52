-- That a seat is of a lock has one proof at most, where two bases are equal in one way at most.
use Rattle.std.specs.Prelude.{Some}
use Rattle.std.specs.Coded.{Coded, Coded-set, coded_option, ×_prop}
use Rattle.atomic_table.specs.Seated.{table_id_coded}
use Rattle.cov_base.specs.declared.book.Book.{Ghosts}
use Rattle.turn_lock.specs.declared.types.TurnLock.{TurnLock}
use Rattle.turn_lock.specs.declared.types.Seat.{Seat}
use Rattle.turn_lock.specs.Seats.{home, IsOf}

pub is_of-prop : {T B E : Type 0} {g : Ghosts T B E} → Coded B → (base : T → B) (l : TurnLock T B E) (s : Seat T B E g) → IsProp (IsOf base l s)
unfolding IsOf
is_of-prop coded base l s = ×_prop (Coded-set table_id_coded s.place.table_id l.table.shared.table_id) (Coded-set (coded_option coded) s.place.me.0.base (Some (home base l)))
