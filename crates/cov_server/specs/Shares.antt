-- What callers see of a shared core.
use Rattle.std.specs.Prelude.{◌≡◌, List}
use Rattle.std.specs.Arc.{arc_value}
use Rattle.design_data.specs.declared.design.Design.{Design}
use Rattle.cov_history.specs.declared.entry.Entry.{Entry}
use Rattle.cov_base.specs.declared.book.Book.{Ghosts}
use Rattle.turn_lock.specs.declared.types.Seat.{Seat}
use Rattle.turn_lock.specs.Seats.{home, IsSeatOf}
use Rattle.cov_server.specs.declared.shared.Shared.{Shared}

module _ {C : Type 0} where
  -- the design over which the history began
  abbrev pub opening_of : (C → Design) → Shared C → Design
  opening_of base s = home base s.lock

module _ {C : Type 0} {g : Ghosts C Design Entry} where
  -- the seat is one of this lock, and sessions over it are given the opening design
  abbrev pub HasSeat : (base : C → Design) → (sound : Design → List Entry → Type 0) → Shared C → Seat C Design Entry g → Type 0
  HasSeat base sound s seat = IsSeatOf base sound s.lock seat × (opening_of base s ≡ arc_value s.design)
