-- What holds of the table between any two steps, however the seats' steps interleave.
-- Tickets are counted without end here; a word shows its count modulo 2 ^ 64.
use Rattle.std.specs.Prelude.{◌≡◌, ◌≢◌, ℕ, ◌+◌, ◌%◌, ◌^◌, ◌<◌, ◌≤◌, List, drop, length, slice_index, Bool, true, false, Option, Some, None}
use mathlib.Core.Option.{none, some}
use mathlib.Core.Option as maybe
use mathlib.Core.List.{IsPrefix}
use lib.ListN.{get_elem?}
use Rattle.atomic_table.specs.Table.{State}
use Rattle.turn_lock.specs.declared.board.View.{View}
use Rattle.turn_lock.specs.declared.board.Stage.{Stage}
use Rattle.turn_lock.specs.declared.board.Stage.TheVariants.{Spent, Idle, Waiting, Served, Done}
use Rattle.turn_lock.specs.Limits.{most_seats}
use Rattle.turn_lock.specs.History.{NoneBy}
use Rattle.turn_lock.specs.Views.{lives_of, HasTurn, lefts, tickets, places, total}

-- What is known of a seat by its stage. Each ticket from served up to drawn has an owner. Who is served or done holds
-- the ticket that is served, while the slot is out (busy). A served seat took the whole history, and a done one has
-- seen the whole history
module _ {E : Type 0} (drawn served : ℕ) (owner : ℕ → ℕ) (busy : Bool) (log : List E) (seat : ℕ) (seen : List E) where
  abbrev pub Knows : Stage E → Type 0
  Knows Spent = Unit {0}
  Knows Idle = Unit {0}
  Knows (Waiting p) = (served ≤ p) × (p < drawn) × (owner p ≡ seat)
  Knows (Served p taken) = (p ≡ served) × (p < drawn) × (owner p ≡ seat) × (busy ≡ true) × (taken ≡ log)
  Knows (Done p) = (p ≡ served) × (p < drawn) × (owner p ≡ seat) × (busy ≡ true) × (seen ≡ log)

-- Seats that live have numbers below the next one, each its own, and one seat at most, the keeper, may draw more.
-- All entries with a seat's number that were made since the start stand in what the seat has seen, and a number that
-- is not yet a seat's has none
module _ {E : Type 0} (number : E → ℕ) (opened next keeper : ℕ) (seat_of : ℕ → ℕ) (log : List E) (j : ℕ) where
  abbrev pub IsUnused : ℕ → Type 0
  IsUnused n = NoneBy number n (drop opened log)

  -- a number that was drawn for a new seat
  abbrev pub IsPending : ℕ → Option ℕ → Type 0
  IsPending mine None = Unit {0}
  IsPending mine (Some n) = (n < next) × (seat_of n ≡ j) × (n ≢ mine) × IsUnused n

  abbrev pub OwnsNumber : {B : Type 0} → View B E → Type 0
  OwnsNumber d = (d.who.number < next) × (seat_of d.who.number ≡ j) × (d.who.opened ≡ opened) × (opened ≤ length d.seen)
      × NoneBy number d.who.number (drop (length d.seen) log) × IsPending d.who.number d.who.pending

  abbrev pub Owns : {B : Type 0} → View B E → Type 0
  Owns d = (0 < d.who.left → j ≡ keeper) × (lives_of d.stage ≡ 1 → OwnsNumber d)

module _ {T B E : Type 0} (base : T → B) (entries : T → List E) (sound : B → List E → Type 0) (number : E → ℕ) (home : B) (opened most : ℕ) where
  -- the seat is of this lock, and what it has seen and was told of is sound
  abbrev pub Based : Option B → List E → List E → Type 0
  Based None seen told = Unit {0}
  Based (Some b) seen told = (b ≡ home) × sound b seen × sound b told

  -- both begin the history
  abbrev pub Saw : List E → View B E → Type 0
  Saw log d = IsPrefix d.seen log × IsPrefix d.told log × Based d.base d.seen d.told

  -- While a seat is served or done (busy) the slot is out. Else it is home, with a value of the lock's base whose
  -- entries are the history
  abbrev pub SlotIs : Bool → ℕ → ℕ → List E → List (maybe.Option (Option T)) → List (View B E) → Type 0
  SlotIs true served holder log homes views = (d : View B E) × (get_elem? views holder ≡ some d) × HasTurn served d.stage × (get_elem? homes 0 ≡ some none)
  SlotIs false served holder log homes views = (x : T) × (base x ≡ home) × (entries x ≡ log) × (get_elem? homes 0 ≡ some (some (Some x)))

  pub record Kept (s : State (Option T) (View B E)) : Type 0 where
    -- the tickets drawn and the tickets served so far, the seat that drew each, and whether the slot is out
    pub drawn : ℕ
    pub served : ℕ
    pub owner : ℕ → ℕ
    pub busy : Bool
    -- the history
    pub log : List E
    -- the next number, the seat that may draw it, and the seat of each number drawn
    pub next : ℕ
    pub keeper : ℕ
    pub seat_of : ℕ → ℕ
    -- four words and a slot
    pub wide : length s.words ≡ 4
    pub long : length s.homes ≡ 1
    pub length_is : slice_index s.words 0 ≡ length log % 2 ^ 64
    pub ticket_is : slice_index s.words 1 ≡ drawn % 2 ^ 64
    pub serving_is : slice_index s.words 2 ≡ served % 2 ^ 64
    pub next_is : slice_index s.words 3 ≡ next
    -- the number word is 2 ^ 32 less the numbers that may still be drawn
    pub left_over : next + total lefts s.views ≡ 2 ^ 32
    pub unused : (n : ℕ) → next ≤ n → NoneBy number n (drop opened log)
    pub within : opened ≤ length log
    pub bound : most ≤ most_seats
    -- as many tickets are held as there are from served up to drawn, by no more seats than the lock was opened for
    pub held : drawn ≡ served + total tickets s.views
    pub few : total places s.views ≤ most
    pub each_seat : (j : ℕ) (d : View B E) → get_elem? s.views j ≡ some d → Knows drawn served owner busy log j d.seen d.stage × Saw log d × Owns number opened next keeper seat_of log j d
    pub slot : SlotIs busy served (owner served) log s.homes s.views
