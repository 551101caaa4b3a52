-- What a port shows of its seat, which is there but while it is lent.
use Rattle.std.specs.Prelude.{ℕ, List, [], Option, Some, None}
use Rattle.turn_lock.specs.declared.types.Seat.{Seat}
use Rattle.turn_lock.specs.Seats.{free, left, opened, number_of, seen, own}
use Rattle.cov_base.specs.declared.book.Book.{Ghosts}

module _ {T B E : Type 0} {g : Ghosts T B E} where
  abbrev pub number_in : Option (Seat T B E g) → ℕ
  number_in (Some s) = number_of s
  number_in None = 0

  abbrev pub seen_in : Option (Seat T B E g) → List E
  seen_in (Some s) = seen s
  seen_in None = []

  abbrev pub own_in : (E → ℕ) → Option (Seat T B E g) → List (ℕ × E)
  own_in number (Some s) = own number s
  own_in number None = []

  abbrev pub free_in : Option (Seat T B E g) → ℕ
  free_in (Some s) = free s
  free_in None = 0

  abbrev pub left_in : Option (Seat T B E g) → ℕ
  left_in (Some s) = left s
  left_in None = 0

  abbrev pub opened_in : Option (Seat T B E g) → ℕ
  opened_in (Some s) = opened s
  opened_in None = 0
