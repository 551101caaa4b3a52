-- What a seat knows of the table at each step. No value of it is made.
use Rattle.std.specs.Prelude.{◌≡◌, ℕ, ◌+◌, ◌-◌, List, [], ◌∷◌, Option, Some, None}
use Rattle.std.specs.Global.{Box}
use Rattle.turn_lock.specs.declared.board.View.{View}
use Rattle.turn_lock.specs.declared.board.Who.{Who}
use Rattle.turn_lock.specs.declared.board.Stage.{Stage}
use Rattle.turn_lock.specs.declared.board.Stage.TheVariants.{Spent, Idle, Waiting, Served, Done}

-- what a function says of the value in a box
abbrev pub inside : {T A : Type 0} → (T → A) → Box T → A
inside f b = f b.value

module _ {E : Type 0} where
  -- how many tickets a seat holds
  abbrev pub tickets_of : Stage E → ℕ
  tickets_of Spent = 0
  tickets_of Idle = 0
  tickets_of (Waiting p) = 1
  tickets_of (Served p taken) = 1
  tickets_of (Done p) = 1

  -- the ticket of a seat, where it has one
  abbrev pub ticket_of : Stage E → ℕ
  ticket_of Spent = 0
  ticket_of Idle = 0
  ticket_of (Waiting p) = p
  ticket_of (Served p taken) = p
  ticket_of (Done p) = p

  -- the entries of the value that was taken
  abbrev pub taken_of : Stage E → List E
  taken_of (Served p taken) = taken
  taken_of _ = []

  -- 1 for a seat that may draw tickets, which it may also once it was left
  abbrev pub lives_of : Stage E → ℕ
  lives_of Spent = 0
  lives_of Idle = 1
  lives_of (Waiting p) = 1
  lives_of (Served p taken) = 1
  lives_of (Done p) = 1

  -- the seat is served or done, with this ticket
  abbrev pub HasTurn : ℕ → Stage E → Type 0
  HasTurn p (Served q taken) = q ≡ p
  HasTurn p (Done q) = q ≡ p
  HasTurn p _ = ⊥

abbrev pub who_is : ℕ → ℕ → ℕ → Option ℕ → Who
who_is number left opened pending = record { number = number; left = left; opened = opened; pending = pending }

-- the first seat has number 0, and may draw all others
abbrev pub first_who : ℕ → Who
first_who opened = who_is 0 4294967295 opened None

abbrev pub nobody : Who
nobody = who_is 0 0 0 None

abbrev pub pending_or : Option ℕ → ℕ
pending_or (Some n) = n
pending_or None = 0

module _ {B E : Type 0} where
  abbrev pub view : Stage E → ℕ → Option B → List E → List E → Who → View B E
  view stage free base seen told who = record { stage = stage; free = free; base = base; seen = seen; told = told; who = who }

  -- the same seat at another stage
  abbrev pub at_stage : Stage E → View B E → View B E
  at_stage stage d = view stage d.free d.base d.seen d.told d.who

  -- the first seat
  abbrev pub idle : ℕ → B → List E → List E → Who → View B E
  idle free base seen told who = view Idle free (Some base) seen told who

  -- what is left of a seat that another took in
  abbrev pub spent : View B E
  spent = view Spent 0 None [] [] nobody

  -- a seat that makes another has one less to make, and passes on the number that it drew
  abbrev pub kept_part : View B E → View B E
  kept_part d = view d.stage (d.free - 1) d.base d.seen d.told (who_is d.who.number d.who.left d.who.opened None)

  -- the seat that it makes
  abbrev pub new_part : View B E → View B E
  new_part d = view Idle 0 d.base d.seen d.told (who_is (pending_or d.who.pending) 0 d.who.opened None)

  -- a note of what a seat has seen, for another
  abbrev pub note_of : View B E → View B E
  note_of d = view Spent 0 d.base d.seen d.told nobody

  -- a seat that takes in a note
  abbrev pub informed : View B E → View B E → View B E
  informed d e = view d.stage d.free d.base d.seen e.seen d.who

  -- a seat that takes in another
  abbrev pub merged : View B E → View B E → View B E
  merged d e = view d.stage (d.free + e.free + 1) d.base d.seen e.seen (who_is d.who.number (d.who.left + e.who.left) d.who.opened d.who.pending)

  -- how many numbers a seat may still draw
  abbrev pub lefts : View B E → ℕ
  lefts d = d.who.left

  -- how many tickets it holds
  abbrev pub tickets : View B E → ℕ
  tickets d = tickets_of d.stage

  -- how many seats it stands for: itself, and those that it may still make
  abbrev pub places : View B E → ℕ
  places d = lives_of d.stage + d.free

-- f of each view, added up
abbrev pub total : {V : Type 0} → (V → ℕ) → List V → ℕ
total f [] = 0
total f (v ∷ vs) = f v + total f vs
