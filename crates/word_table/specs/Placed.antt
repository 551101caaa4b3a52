-- Words with the places of what they stand for.
use Rattle.std.specs.Prelude.{◌≡◌, ◌≢◌, ◌↔◌, ℕ, ℤ, ◌<◌, ◌≤◌, List, [], ◌∷◌, ◌++◌, length, map, All, AllPairs, Contains, Option, Bool, IsTrue}
use Rattle.cov_ground.specs.Limits.{most_bins}
use Rattle.word_table.specs.declared.row.PlacedWord.{PlacedWord}
use Rattle.word_table.specs.Words.{Ends}
use Rattle.word_table.specs.Recent.{longest, AreLast}

-- words and places, one by one
abbrev pub rows_of : List (List ℤ) → List ℕ → List PlacedWord
rows_of [] places = []
rows_of (word ∷ words) [] = []
rows_of (word ∷ words) (place ∷ places) = record { word = word; place = place } ∷ rows_of words places

-- words that a table can hold, in any order
pub record ArePlaced (rows : List PlacedWord) : Type 0 where
  pub short : All (λ row. length row.word ≤ longest) rows
  pub few : length rows ≤ most_bins

-- a word has this place
pub record HasPlace (rows : List PlacedWord) (place : ℕ) : Type 0 where
  pub row : PlacedWord
  pub is_one : Contains rows row
  pub is_place : row.place ≡ place

-- the trace ends with a word of this place
pub record EndsAt (rows : List PlacedWord) (w : List (Option ℤ)) (place : ℕ) : Type 0 where
  pub row : PlacedWord
  pub is_one : Contains rows row
  pub is_place : row.place ≡ place
  pub ends : Ends row.word w

-- no place has two words
abbrev pub StandOnce : List PlacedWord → Type 0
StandOnce rows = AllPairs (λ a b. a ≢ b) (map (λ row. row.place) rows)

-- the places of the words that the trace with these last values ends with were appended, and there are some or not
pub record AddsEnded (rows : List PlacedWord) (recent : List (Option ℤ)) (old new : List ℕ) (some : Bool) : Type 0 where
  pub found : List ℕ
  pub is_new : new ≡ old ++ found
  pub are : (w : List (Option ℤ)) → AreLast recent w → (place : ℕ) → Contains found place ↔ EndsAt rows w place
  pub once : StandOnce rows → AllPairs (λ a b. a ≢ b) found
  pub is_some : IsTrue some ↔ (0 < length found)
