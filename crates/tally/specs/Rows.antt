-- Counts of bins, of which only those above 0 are kept: rows of a bin and its count.
use Rattle.std.specs.Prelude.{◌≡◌, ℕ, ◌+◌, ◌<◌, ◌≤◌, ◌==◌, ◌^◌, List, [], ◌∷◌, length, slice_index, if◌then◌else◌}

-- the rows of the counts of the bins from `bin` on
abbrev pub rows_from : ℕ → List ℕ → List (ℕ × ℕ)
rows_from bin [] = []
rows_from bin (count ∷ counts) = if count == 0 then rows_from (bin + 1) counts else (bin, count) ∷ rows_from (bin + 1) counts

-- the count of a bin: that of its row, and 0 where it has none
abbrev pub count_in : List (ℕ × ℕ) → ℕ → ℕ
count_in [] bin = 0
count_in (row ∷ rows) bin = if row.0 == bin then row.1 else count_in rows bin

-- each row is of a later bin than the one before it, and counts at least 1
abbrev pub IsAscendingFrom : ℕ → List (ℕ × ℕ) → Type 0
IsAscendingFrom bin [] = Unit {0}
IsAscendingFrom bin (row ∷ rows) = (bin ≤ row.0) × (1 ≤ row.1) × IsAscendingFrom (row.0 + 1) rows

-- the counts of the bins from `first` on, by index
abbrev pub count_from : List (ℕ × ℕ) → ℕ → ℕ → ℕ
count_from rows first index = count_in rows (first + index)

-- each number is greater by what `count` gives at its index
pub record Adds (count : ℕ → ℕ) (old new : List ℕ) : Type 0 where
  pub same : length new ≡ length old
  pub at : (index : ℕ) → index < length old → slice_index new index ≡ slice_index old index + count index

-- the sums fit
abbrev pub HasRoom : (ℕ → ℕ) → List ℕ → Type 0
HasRoom count numbers = (index : ℕ) → index < length numbers → slice_index numbers index + count index < 2 ^ 64
