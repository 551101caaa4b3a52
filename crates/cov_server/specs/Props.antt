-- That a seat is of a lock has one proof at most.
use Rattle.design_data.specs.declared.design.Design.{Design}
use Rattle.design_data.specs.contracts.design.Design as design_type
use Rattle.cov_history.specs.declared.entry.Entry.{Entry}
use Rattle.cov_base.specs.declared.book.Book.{Ghosts}
use Rattle.turn_lock.specs.declared.types.TurnLock.{TurnLock}
use Rattle.turn_lock.specs.declared.types.Seat.{Seat}
use Rattle.turn_lock.specs.Props as lock
use Rattle.turn_lock.specs.Seats.{IsOf}

pub is_of-prop : {T : Type 0} {g : Ghosts T Design Entry} (base : T → Design) (l : TurnLock T Design Entry) (s : Seat T Design Entry g) → IsProp (IsOf base l s)
is_of-prop = lock.is_of-prop design_type.the_row.coded
