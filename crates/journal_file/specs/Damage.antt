-- Damage that is seen by the sums beside a journal.
use Rattle.std.specs.Prelude.{◌≡◌, ◌≢◌, ◌⊎◌, ℕ, ◌+◌, ◌*◌, ◌/◌, ◌<◌, ◌≤◌, List, [], ◌∷◌, ◌++◌, length, take, drop, Bool, true, false}
use Rattle.journal_bytes.specs.Items.{Item, journal_of}
use Rattle.journal_bytes.specs.Sums.{sum_of}
use Rattle.journal_file.specs.Stands.{StandsFor, Begins}

-- how many whole sums these bytes are: what a loss of power cut is none, and is made up
abbrev pub whole : (sums : List ℕ) → ℕ
whole sums = length sums / 32

-- the sum at this place
abbrev pub sum_at : (sums : List ℕ) → ℕ → List ℕ
sum_at sums k = take 32 (drop (32 * k) sums)

-- whether the sum at this place, if there is a whole one, is this
abbrev pub Compares : (sums : List ℕ) → (k : ℕ) → (sum : List ℕ) → Bool → Type 0
Compares sums k sum true = k < whole sums → sum_at sums k ≡ sum
Compares sums k sum false = (k < whole sums) × (sum_at sums k ≢ sum)

-- each whole sum that has an item is that of the items up to its own
abbrev pub Agrees : (digest sums : List ℕ) → List Item → Type 0
Agrees digest sums items = (k : ℕ) → k < length items → k < whole sums → sum_at sums k ≡ sum_of digest (take (k + 1) items)

-- the item behind these is at this place, and has a whole sum that isn't its own
pub record Differs (digest sums : List ℕ) (items : List Item) (at : ℕ) (file : List ℕ) : Type 0 where
  pub item : Item
  pub begins : Begins digest (items ++ item ∷ []) file
  pub place : length (journal_of digest items) ≡ at
  pub before : Agrees digest sums items
  pub there : length items < whole sums
  pub differs : sum_at sums (length items) ≢ sum_of digest (items ++ item ∷ [])

-- the journal ends at this place, and there are two whole sums or more beyond those of its items
pub record Lacks (digest sums : List ℕ) (items : List Item) (at : ℕ) (file : List ℕ) : Type 0 where
  pub stands : StandsFor digest items file
  pub place : length (journal_of digest items) ≡ at
  pub before : Agrees digest sums items
  pub more : length items + 2 ≤ whole sums

-- the journal is damaged at this place
abbrev pub IsDamaged : (digest sums : List ℕ) → (at : ℕ) → (file : List ℕ) → Type 0
IsDamaged digest sums at file = (items : List Item) × (Differs digest sums items at file ⊎ Lacks digest sums items at file)
