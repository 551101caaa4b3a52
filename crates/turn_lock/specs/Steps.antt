-- What each step on the table tells the seat that makes it.
use Rattle.std.specs.Prelude.{◌≡◌, ◌≢◌, ℕ, ◌+◌, ◌-◌, ◌%◌, ◌^◌, ◌<◌, ◌≤◌, List, [], ◌∷◌, drop, length, Option, Some, None}
use mathlib.Core.List.{IsPrefix}
use Rattle.atomic_table.specs.Table.{Me, Step}
use Rattle.turn_lock.specs.declared.board.View.{View}
use Rattle.turn_lock.specs.declared.board.Stage.TheVariants.{Waiting, Served, Done, Idle}
use Rattle.turn_lock.specs.Limits.{most_seats}
use Rattle.turn_lock.specs.History.{longer, NoneBy}
use Rattle.turn_lock.specs.Views.{ticket_of, taken_of, who_is, view, at_stage}

-- a seat's view, and the slots that it holds
abbrev pub Sat : Type 0 → Type 0 → Type 0 → Type 0
Sat T B E = Me (Option T) (View B E)

module _ {T B E : Type 0} where
  -- a ticket was drawn, and the word showed it
  abbrev pub drew : Step (Option T) → Sat T B E → ℕ → Sat T B E → Type 0
  drew st m r m' = (p : ℕ) × (r ≡ p % 2 ^ 64) × (m' ≡ (at_stage (Waiting p) m.0, m.1))

  -- the seat of m is served, and has the slot with the value. No entry that it had not seen has its number
  abbrev pub Serves : (T → B) → (T → List E) → (E → ℕ) → ℕ → Sat T B E → Sat T B E → Type 0
  Serves base entries number p m m' = (x : T) × (Some (base x) ≡ m.0.base) × IsPrefix m.0.seen (entries x) × NoneBy number m.0.who.number (drop (length m.0.seen) (entries x))
      × (m' ≡ (at_stage (Served p (entries x)) m.0, (0, Some x) ∷ m.1))

  -- where the word shows its ticket the seat is served
  abbrev pub looked : (T → B) → (T → List E) → (E → ℕ) → Step (Option T) → Sat T B E → ℕ → Sat T B E → Type 0
  looked base entries number st m r m' = (p : ℕ) (b : B) → m.0.stage ≡ Waiting p → m.0.base ≡ Some b → (r ≡ p % 2 ^ 64 → Serves base entries number p m m') × (r ≢ p % 2 ^ 64 → m' ≡ m)

  -- the history is now what the step announced
  abbrev pub fixed : List E → Step (Option T) → Sat T B E → ℕ → Sat T B E → Type 0
  fixed news st m r m' = m' ≡ (view (Done (ticket_of m.0.stage)) m.0.free m.0.base news m.0.told m.0.who, m.1)

  -- the seat drew the number that the word showed, which no entry since the start has
  abbrev pub drew_number : (E → ℕ) → Step (Option T) → Sat T B E → ℕ → Sat T B E → Type 0
  drew_number number st m r m' = (r + m.0.who.left ≡ 2 ^ 32) × NoneBy number r (drop m.0.who.opened m.0.seen)
      × (m' ≡ (view m.0.stage m.0.free m.0.base m.0.seen m.0.told (who_is m.0.who.number (m.0.who.left - 1) m.0.who.opened (Some r)), m.1))

  -- the seat gave the slot and its ticket up
  abbrev pub passed : Step (Option T) → Sat T B E → ℕ → Sat T B E → Type 0
  passed st m r m' = m' ≡ (at_stage Idle m.0, [])

  -- The seat has seen the longer of what it had seen and what it was told of, and each begins it. No entry that it had
  -- not seen has its number
  abbrev pub learned : (B → List E → Type 0) → (E → ℕ) → Step (Option T) → Sat T B E → ℕ → Sat T B E → Type 0
  learned sound number st m r m' = (m' ≡ (view m.0.stage m.0.free m.0.base (longer m.0.seen m.0.told) m.0.told m.0.who, m.1))
      × IsPrefix m.0.seen m'.0.seen × IsPrefix m.0.told m'.0.seen × ((b : B) → m.0.base ≡ Some b → sound b m'.0.seen)
      × NoneBy number m.0.who.number (drop (length m.0.seen) m'.0.seen) × (m.0.who.left < 2 ^ 32) × (m.0.free < most_seats) × (m.0.who.opened ≤ length m.0.seen)

  -- the seat holds this ticket and no slot
  abbrev pub Waits : ℕ → Sat T B E → Type 0
  Waits ticket m = (p : ℕ) × (ticket ≡ p % 2 ^ 64) × (m ≡ (at_stage (Waiting p) m.0, []))

  -- the seat is served and has the slot, which is empty
  abbrev pub IsServed : Sat T B E → Type 0
  IsServed m = m ≡ (at_stage (Served (ticket_of m.0.stage) (taken_of m.0.stage)) m.0, (0, None) ∷ [])
