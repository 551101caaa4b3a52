-- What callers see of a lock, its seats and its turns. The words that read them are opened by the lock's own proofs alone.
use Rattle.std.specs.Prelude.{◌≡◌, ℕ, List, drop, Some}
use Rattle.cov_base.specs.declared.book.Book.{Ghosts}
use Rattle.turn_lock.specs.History.{own_from}
use Rattle.turn_lock.specs.Views.{taken_of}
use Rattle.turn_lock.specs.declared.types.TurnLock.{TurnLock}
use Rattle.turn_lock.specs.declared.types.Seat.{Seat}
use Rattle.turn_lock.specs.declared.types.Turn.{Turn}

module _ {T B E : Type 0} where
  -- the base of the lock
  unfoldable pub home : (T → B) → TurnLock T B E → B
  home base l = base l.table.shared.key.value.value

module _ {T B E : Type 0} {g : Ghosts T B E} where
  unfoldable pub number_of : Seat T B E g → ℕ
  number_of s = s.place.me.0.who.number

  -- how many further seats a seat may make
  unfoldable pub free : Seat T B E g → ℕ
  free s = s.place.me.0.free

  -- how many numbers it may still draw
  unfoldable pub left : Seat T B E g → ℕ
  left s = s.place.me.0.who.left

  -- the length that the history had when the lock was opened
  unfoldable pub opened : Seat T B E g → ℕ
  opened s = s.place.me.0.who.opened

  -- the history that it has seen
  unfoldable pub seen : Seat T B E g → List E
  seen s = s.place.me.0.seen

  -- the seat is of this lock
  unfoldable pub IsOf : (T → B) → TurnLock T B E → Seat T B E g → Type 0
  IsOf base l s = (s.place.table_id ≡ l.table.shared.table_id) × (s.place.me.0.base ≡ Some (home base l))

  -- its own entries since the lock was opened, each with its index in the history
  abbrev pub own : (E → ℕ) → Seat T B E g → List (ℕ × E)
  own number s = own_from number (number_of s) (opened s) (drop (opened s) (seen s))

  -- the seat is of this lock, and what it has seen is sound for the lock's base
  pub record IsSeatOf (base : T → B) (sound : B → List E → Type 0) (l : TurnLock T B E) (s : Seat T B E g) : Type 0 where
    pub is_of : IsOf base l s
    pub is_sound : ∥ sound (home base l) (seen s) ∥₁

  -- all but what was seen is the same
  pub record IsSame (s t : Seat T B E g) : Type 0 where
    pub same_number : number_of t ≡ number_of s
    pub same_free : free t ≡ free s
    pub same_left : left t ≡ left s
    pub same_opened : opened t ≡ opened s

  unfoldable pub turn_number : Turn T B E g → ℕ
  turn_number t = t.place.me.0.who.number

  unfoldable pub turn_free : Turn T B E g → ℕ
  turn_free t = t.place.me.0.free

  unfoldable pub turn_left : Turn T B E g → ℕ
  turn_left t = t.place.me.0.who.left

  unfoldable pub turn_opened : Turn T B E g → ℕ
  turn_opened t = t.place.me.0.who.opened

  -- the entries of the value that was taken
  unfoldable pub taken : Turn T B E g → List E
  taken t = taken_of t.place.me.0.stage

  -- the turn is of this lock
  unfoldable pub IsTurnOf : (T → B) → TurnLock T B E → Turn T B E g → Type 0
  IsTurnOf base l t = (t.place.table_id ≡ l.table.shared.table_id) × (t.place.me.0.base ≡ Some (home base l))

  -- the own entries among those that were taken
  abbrev pub turn_own : (E → ℕ) → Turn T B E g → List (ℕ × E)
  turn_own number t = own_from number (turn_number t) (turn_opened t) (drop (turn_opened t) (taken t))

  -- the turn is this seat's: it has all of it but what was seen
  pub record IsTurnBy (s : Seat T B E g) (t : Turn T B E g) : Type 0 where
    pub same_number : turn_number t ≡ number_of s
    pub same_free : turn_free t ≡ free s
    pub same_left : turn_left t ≡ left s
    pub same_opened : turn_opened t ≡ opened s
