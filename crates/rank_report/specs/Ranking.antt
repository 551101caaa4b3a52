-- The greedy ranking of tests by what they add to the hits that are wanted. A test is its rows, of a bin and its count;
-- what is wanted are pairs of a bin and of how many hits of it are wanted.
use Rattle.std.specs.Prelude.{◌≡◌, ℕ, ◌-◌, ◌<◌, ◌≤◌, ◌==◌, min, List, [], ◌∷◌, ◌++◌, length, map, slice_index_or, Bool, false}
use Rattle.std.specs.List.{sum_by, list_any}
use Rattle.tally.specs.Rows.{count_in}
use Rattle.tally.specs.declared.ranked.Ranked.{Ranked}

abbrev pub Test : Type 0
Test = List (ℕ × ℕ)

-- how often the tests hit the bin together
abbrev pub total : List Test → ℕ → ℕ
total tests bin = sum_by (λ test. count_in test bin) tests

-- the hits of the wanted bins, of each bin no more than are wanted
abbrev pub worth : List (ℕ × ℕ) → List Test → ℕ
worth wanted tests = sum_by (λ (pair : ℕ × ℕ). min pair.1 (total tests pair.0)) wanted

-- the test at an index
abbrev pub test_at : List Test → ℕ → Test
test_at tests index = slice_index_or tests index []

-- the tests of the rows
abbrev pub tests_of : List Test → List Ranked → List Test
tests_of tests ranked = map (λ row. test_at tests row.test) ranked

-- a row has the test at this index
abbrev pub is_taken : List Ranked → ℕ → Bool
is_taken ranked index = list_any (λ row. row.test == index) ranked

-- by how much the test at an index raises the worth of those that are taken
abbrev pub gain_at : List Test → List (ℕ × ℕ) → List Ranked → ℕ → ℕ
gain_at tests wanted ranked index = worth wanted (tests_of tests ranked ++ (test_at tests index ∷ [])) - worth wanted (tests_of tests ranked)

-- the row is next after these: its test has the greatest gain of those left, which is above 0, and is the earliest with it
pub record IsNext (tests : List Test) (wanted : List (ℕ × ℕ)) (ranked : List Ranked) (row : Ranked) : Type 0 where
  pub inside : row.test < length tests
  pub left : is_taken ranked row.test ≡ false
  pub gains : row.gain ≡ gain_at tests wanted ranked row.test
  pub some : 0 < row.gain
  pub greatest : (index : ℕ) → index < length tests → is_taken ranked index ≡ false → gain_at tests wanted ranked index ≤ row.gain
  pub earliest : (index : ℕ) → index < row.test → is_taken ranked index ≡ false → gain_at tests wanted ranked index < row.gain

-- each row is next after those before it
pub data IsGreedy (tests : List Test) (wanted : List (ℕ × ℕ)) : List Ranked → Type 0 where
  none : IsGreedy tests wanted []
  then : {ranked : List Ranked} {row : Ranked} → IsGreedy tests wanted ranked → IsNext tests wanted ranked row → IsGreedy tests wanted (ranked ++ (row ∷ []))

-- the whole ranking: the rows are greedy, and no test that is left has a gain
pub record IsRanking (tests : List Test) (wanted : List (ℕ × ℕ)) (ranked : List Ranked) : Type 0 where
  pub greedy : IsGreedy tests wanted ranked
  pub end : (index : ℕ) → index < length tests → is_taken ranked index ≡ false → gain_at tests wanted ranked index ≡ 0
