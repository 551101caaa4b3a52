-- One turn of a caller over a history that others make longer too.
use Rattle.std.specs.Prelude.{◌≡◌, ◌⊎◌, ℕ, ◌+◌, ◌<◌, ◌≤◌, List, [], ◌∷◌, ◌++◌, length, map, take, true}
use Rattle.design_data.specs.declared.design.Design.{Design}
use Rattle.record_codec.specs.declared.record.Record.{Record}
use Rattle.ucis_model.specs.declared.answers.Answer.{Answer}
use Rattle.ucis_model.specs.declared.answers.Answer.TheVariants as answers
use Rattle.cov_history.specs.declared.entry.Revision.{Revision}
use Rattle.cov_history.specs.declared.entry.Event.TheVariants as event
use Rattle.cov_history.specs.declared.entry.Entry.{Entry}
use Rattle.cov_history.specs.declared.asks.Ask.{Ask}
use Rattle.cov_history.specs.declared.asks.Ask.TheVariants as ask
use Rattle.cov_history.specs.Answers.{answer_at, is_made, by, made, may_want, Serves}

-- ---- what is wished for

-- A record to admit, a revision, or an ask that has no point of its own.
pub data Wish : Type 0 where
  Plain : Ask → Wish
  Admit : Record → Wish
  Revise : Revision → Wish

abbrev pub wish_of : Ask → Wish
wish_of (ask.Admit since r) = Admit r
wish_of (ask.Revise since revision) = Revise revision
wish_of other = Plain other

-- the ask for it, with the point at which a record was prepared or a text was compiled
abbrev pub ask_of : (since : ℕ) → Wish → Ask
ask_of since (Plain a) = a
ask_of since (Admit r) = ask.Admit since r
ask_of since (Revise revision) = ask.Revise since revision

-- the point of an ask, and this one where it has none
abbrev pub since_of : Ask → (at : ℕ) → ℕ
since_of (ask.Admit since r) at = since
since_of (ask.Revise since revision) at = since
since_of other at = at

-- an ask's own point isn't before this one
abbrev pub IsFrom : (from : ℕ) → Ask → Type 0
IsFrom from (ask.Admit since r) = from ≤ since
IsFrom from (ask.Revise since revision) = from ≤ since
IsFrom from other = Unit {0}

-- the answer to a wish at a history
abbrev pub wished : (opening : Design) → List Entry → (caller since : ℕ) → Wish → Answer
wished opening h caller since w = answer_at opening h caller (ask_of since w)

-- the entries that an answer to it makes
abbrev pub made_by : (caller : ℕ) → Wish → Answer → List Entry
made_by caller w given = made caller (ask_of 0 w) given

-- ---- what is answered

-- The answer is the expected one and makes its entry; or a change is expected, and Stopped is given with a Stop.
abbrev pub Answers : (caller : ℕ) → Wish → (expected given : Answer) → (entries : List Entry) → Type 0
Answers caller w expected given entries = ((given ≡ expected) × (entries ≡ made_by caller w given))
    ⊎ ((is_made expected ≡ true) × (given ≡ answers.Stopped) × (entries ≡ by caller event.Stop ∷ []))

-- A change was to be made, and a Stop was made in its place, since what keeps the history failed.
pub record Stops (opening : Design) (caller : ℕ) (h : List Entry) (a : Ask) (given : Answer) (after : List Entry) (faults now : ℕ) : Type 0 where
  pub change : is_made (answer_at opening h caller a) ≡ true
  pub answer : given ≡ answers.Stopped
  pub entries : after ≡ h ++ by caller event.Stop ∷ []
  pub cause : faults < now

-- The ask is served at the entries before, or the history is stopped.
abbrev pub ServesOrStops : (opening : Design) → (caller : ℕ) → List Entry → Ask → (given : Answer) → (after : List Entry) → (faults now : ℕ) → Type 0
ServesOrStops opening caller h a given after faults now = Serves opening caller h a given after ⊎ Stops opening caller h a given after faults now

-- ---- turns

-- the history grew: it begins with what it was
pub record Grown (h after : List Entry) : Type 0 where
  pub more : List Entry
  pub is : after ≡ h ++ more

-- A wish is answered at a place of a history that isn't before `from`, nor before the point of its ask; what is made is
-- the entry at that place. `to` is the point answered, and `added` the entries made, each with its place.
pub record TurnsAt (opening : Design) (h : List Entry) (caller from : ℕ) (w : Wish) (given : Answer) (added : List (ℕ × Entry)) (to : ℕ) : Type 0 where
  pub at : ℕ
  pub since : ℕ
  pub entries : List Entry
  pub low : from ≤ since
  pub order : since ≤ at
  pub high : to ≤ length h
  pub point : to ≡ at + length entries
  pub answer : Answers caller w (wished opening (take at h) caller since w) given entries
  pub there : take to h ≡ take at h ++ entries
  pub adds : added ≡ map (λ e. (at, e)) entries

-- ---- what a port promises of a turn, over the history that it has seen before and after

-- The ask is answered at a place that isn't before what was seen, and what is made is the entry at that place.
pub record PortTurns (opening : Design) (seen after : List Entry) (caller : ℕ) (a : Ask) (given : Answer) (added : List (ℕ × Entry)) (to : ℕ) : Type 0 where
  pub at : ℕ
  pub entries : List Entry
  pub low : length seen ≤ at
  pub high : to ≤ length after
  pub point : to ≡ at + length entries
  pub answer : Answers caller (wish_of a) (answer_at opening (take at after) caller a) given entries
  pub there : take to after ≡ take at after ++ entries
  pub adds : added ≡ map (λ e. (at, e)) entries

-- memory is wanted, and no entry is made
pub record PortWants (seen after : List Entry) (a : Ask) (given : Answer) (added : List (ℕ × Entry)) (to : ℕ) : Type 0 where
  pub may : may_want a ≡ true
  pub answer : given ≡ answers.Memory
  pub low : length seen ≤ to
  pub high : to ≤ length after
  pub adds : added ≡ []

-- one of the two, and the caller's own entries are more by what was added
pub record PortTurn (opening : Design) (seen : List Entry) (own : List (ℕ × Entry)) (after : List Entry) (own_after : List (ℕ × Entry)) (caller : ℕ) (a : Ask) (given : Answer) (to : ℕ) : Type 0 where
  pub added : List (ℕ × Entry)
  pub turn : PortTurns opening seen after caller a given added to ⊎ PortWants seen after a given added to
  pub owns : own_after ≡ own ++ added
