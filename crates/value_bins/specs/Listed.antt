-- Numbers that a list of ranges stands for, one after the other, and what is kept of them.
use Rattle.std.specs.Prelude.{◌≡◌, ℤ, ℕ, List, [], ◌∷◌, ◌++◌, Bool, map}
use Rattle.std.specs.List.{items_where_true, list_any}
use Rattle.cov_base.specs.Sets.{set_of, written, is_in}
use Rattle.bin_spec.specs.Parts.{parts}

-- The sets of n bins over which the listed numbers of ranges are spread, each number as often as it is listed
-- (IEEE 1800-2017, 19.5.1).
abbrev pub spread_sets : List (ℤ × ℤ) → ℕ → List (List (ℤ × ℤ))
spread_sets ranges n = map set_of (parts (written ranges) n)

-- sets that together have the numbers of a list
abbrev pub HaveTogether : List (List (ℤ × ℤ)) → List ℤ → Type 0
HaveTogether sets numbers = (v : ℤ) → list_any (λ set. is_in (written set) v) sets ≡ is_in numbers v

-- for each number, in order, an answer that the filter may give of it
abbrev pub AnswersEach : (ℤ → Bool → Type 0) → List ℤ → List Bool → Type 0
AnswersEach Gives [] [] = Unit {0}
AnswersEach Gives [] (answer ∷ answers) = ⊥
AnswersEach Gives (number ∷ numbers) [] = ⊥
AnswersEach Gives (number ∷ numbers) (answer ∷ answers) = Gives number answer × AnswersEach Gives numbers answers

-- The filter was asked once of each number, in order, and those of which it said yes stand behind what was kept before.
pub record Keeps (Gives : ℤ → Bool → Type 0) (numbers old new : List ℤ) : Type 0 where
  pub answers : List Bool
  pub asked : AnswersEach Gives numbers answers
  pub kept : new ≡ old ++ items_where_true answers numbers
