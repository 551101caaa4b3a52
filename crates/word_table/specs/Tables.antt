-- Words that stand one behind the other in one list of values.
use Rattle.std.specs.Prelude.{◌≡◌, ℤ, ℕ, ◌-◌, ◌≤◌, List, [], ◌∷◌, length, take, drop, All}
use Rattle.cov_ground.specs.Limits.{most_bins}
use Rattle.word_table.specs.Words.{IsSorted}
use Rattle.word_table.specs.Recent.{longest}

-- the pieces of a list from this place on, each up to the next of the places
abbrev pub pieces_from : ℕ → List ℕ → List ℤ → List (List ℤ)
pieces_from start [] values = []
pieces_from start (end ∷ ends) values = take (end - start) (drop start values) ∷ pieces_from end ends values

-- the places ascend, and are places of a list of this length
abbrev pub AreCuts : ℕ → List ℕ → ℕ → Type 0
AreCuts start [] count = start ≤ count
AreCuts start (end ∷ ends) count = (start ≤ end) × AreCuts end ends count

abbrev pub pieces : List ℕ → List ℤ → List (List ℤ)
pieces [] values = []
pieces (start ∷ ends) values = pieces_from start ends values

abbrev pub AreStarts : List ℕ → ℕ → Type 0
AreStarts [] count = ⊥
AreStarts (start ∷ ends) count = AreCuts start ends count

-- words that a table can hold: in order, none too long, not too many
pub record AreWords (words : List (List ℤ)) : Type 0 where
  pub sorted : IsSorted words
  pub short : All (λ word. length word ≤ longest) words
  pub few : length words ≤ most_bins

-- ---- a table that is being made

-- where the last piece ends
abbrev pub ends_at : ℕ → List ℕ → ℕ
ends_at start [] = start
ends_at start (end ∷ ends) = ends_at end ends

abbrev pub AreEnded : List ℕ → ℕ → Type 0
AreEnded [] count = ⊥
AreEnded (start ∷ ends) count = ends_at start ends ≡ count

-- the words stand in the table so far
pub record Holds (words : List (List ℤ)) (starts : List ℕ) (values : List ℤ) : Type 0 where
  pub starts_so : AreStarts starts (length values)
  pub ended : AreEnded starts (length values)
  pub has : pieces starts values ≡ words
