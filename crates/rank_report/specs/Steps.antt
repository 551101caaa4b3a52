-- What the steps of a ranking find, by what is missing of the wanted hits: pairs of a bin and a number.
use Rattle.std.specs.Prelude.{◌≡◌, ◌==◌, ℕ, ◌+◌, ◌-◌, ◌<◌, ◌≤◌, min, List, [], ◌∷◌, length, map, slice_index, slice_index_or, slice_set, Bool, false, Option, Some, None, if◌then◌else◌}
use Rattle.std.specs.List.{sum_by}
use Rattle.std.specs.List.Sorted.{IsNonDecreasingBy}
use Rattle.tally.specs.Rows.{count_in}
use Rattle.tally.specs.declared.ranked.Ranked.{Ranked}
use Rattle.rank_report.specs.Ranking.{Test}

-- how many of the missing hits the test has
abbrev pub added : Test → List (ℕ × ℕ) → ℕ
added test missing = sum_by (λ (pair : ℕ × ℕ). min pair.1 (count_in test pair.0)) missing

-- what is missing after the test
abbrev pub less : Test → List (ℕ × ℕ) → List (ℕ × ℕ)
less test missing = map (λ (pair : ℕ × ℕ). (pair.0, pair.1 - count_in test pair.0)) missing

-- of each pair from an index on that the test hits, its index and how many of its wanted hits the test has
abbrev pub hits_from : ℕ → Test → List (ℕ × ℕ) → List (ℕ × ℕ)
hits_from index test [] = []
hits_from index test (pair ∷ pairs) = if min pair.1 (count_in test pair.0) == 0 then hits_from (index + 1) test pairs else (index, min pair.1 (count_in test pair.0)) ∷ hits_from (index + 1) test pairs

-- the bin of the pair at an index, and that no bin is below an earlier one
abbrev pub bin_at : List (ℕ × ℕ) → ℕ → ℕ
bin_at pairs index = (slice_index_or pairs index (0, 0)).0

abbrev pub AscendByBin : List (ℕ × ℕ) → Type 0
AscendByBin pairs = IsNonDecreasingBy (λ (pair : ℕ × ℕ). pair.0) pairs

-- the hits that the pair at an index lacks
abbrev pub lacking : List (ℕ × ℕ) → ℕ → ℕ
lacking missing index = (slice_index_or missing index (0, 0)).1

-- how many of the missing hits these are
abbrev pub added_by : List (ℕ × ℕ) → List (ℕ × ℕ) → ℕ
added_by hits missing = sum_by (λ (hit : ℕ × ℕ). min (lacking missing hit.0) hit.1) hits

-- what is missing after these hits
abbrev pub less_by : List (ℕ × ℕ) → List (ℕ × ℕ) → List (ℕ × ℕ)
less_by [] missing = missing
less_by (hit ∷ hits) missing = less_by hits (slice_set missing hit.0 ((slice_index_or missing hit.0 (0, 0)).0, lacking missing hit.0 - hit.1))

-- the gain at an index, 0 where it is taken
abbrev pub open_gain : List ℕ → List Bool → ℕ → ℕ
open_gain gains taken index = if slice_index_or taken index false then 0 else slice_index gains index

-- the row has the greatest open gain, which is above 0, and the first index with it
pub record IsBestRow (gains : List ℕ) (taken : List Bool) (row : Ranked) : Type 0 where
  pub inside : row.test < length gains
  pub is : row.gain ≡ open_gain gains taken row.test
  pub some : 0 < row.gain
  pub greatest : (index : ℕ) → index < length gains → open_gain gains taken index ≤ row.gain
  pub earliest : (index : ℕ) → index < row.test → open_gain gains taken index < row.gain

-- none where no open gain is above 0
abbrev pub IsBest : List ℕ → List Bool → Option Ranked → Type 0
IsBest gains taken None = (index : ℕ) → index < length gains → open_gain gains taken index ≡ 0
IsBest gains taken (Some row) = IsBestRow gains taken row

-- no gain of an open index is greater than the number there
abbrev pub StandAbove : List ℕ → List Bool → List ℕ → Type 0
StandAbove gains taken numbers = (index : ℕ) → index < length gains → open_gain gains taken index ≤ open_gain numbers taken index

-- the numbers that aren't below `floor` are the gains
abbrev pub AreFresh : List ℕ → List Bool → ℕ → List ℕ → Type 0
AreFresh gains taken floor numbers = (index : ℕ) → index < length gains → floor ≤ open_gain numbers taken index → open_gain numbers taken index ≡ open_gain gains taken index
