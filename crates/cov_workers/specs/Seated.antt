-- Where a worker's seat lies.
use Rattle.std.specs.Prelude.{List, Option, Some, None}
use Rattle.design_data.specs.declared.design.Design.{Design}
use Rattle.cov_history.specs.declared.entry.Entry.{Entry}
use Rattle.cov_base.specs.declared.book.Book.{Ghosts}
use Rattle.turn_lock.specs.declared.types.Seat.{Seat}
use Rattle.cov_server.specs.declared.shared.Shared.{Shared}
use Rattle.cov_server.specs.Shares.{HasSeat}

module _ {C : Type 0} {g : Ghosts C Design Entry} where
  -- a seat of the shared core, or none
  abbrev pub IsHere : (base : C → Design) → (sound : Design → List Entry → Type 0) → Shared C → Option (Seat C Design Entry g) → Type 0
  IsHere base sound s (Some seat) = HasSeat base sound s seat
  IsHere base sound s None = Unit {0}
