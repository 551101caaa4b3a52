-- What the inner functions of the sets do to lists of intervals. Public contracts cite none of it.
use Rattle.std.specs.Prelude.{ℤ, pos, ◌+ℤ◌, ◌-ℤ◌, ◌≤ℤ◌, int_lt, int_le, ℕ, ◌+◌, ◌≤◌, ◌<◌, length, slice_index_or, List, [], ◌∷◌, ◌++◌, if◌then◌else◌}
use Rattle.std.specs.Int.{int_max}
use Rattle.cov_base.specs.Sets.{size, least, greatest}

-- an interval after those that begin no later: it grows the last one, where it overlaps or touches it
abbrev pub joined : List (ℤ × ℤ) → ℤ × ℤ → List (ℤ × ℤ)
joined [] range = range ∷ []
joined (x ∷ []) range = if int_le range.0 (x.1 +ℤ pos 1) then (x.0, int_max x.1 range.1) ∷ [] else x ∷ range ∷ []
joined (x ∷ y ∷ xs) range = x ∷ joined (y ∷ xs) range

-- one after the other
abbrev pub joins : List (ℤ × ℤ) → List (ℤ × ℤ) → List (ℤ × ℤ)
joins done [] = done
joins done (range ∷ ranges) = joins (joined done range) ranges

-- each begins at `low` or later, and at the one before it or later
abbrev pub BeginInOrder : ℤ → List (ℤ × ℤ) → Type 0
BeginInOrder low [] = Unit {0}
BeginInOrder low (r ∷ rs) = (low ≤ℤ r.0) × (r.0 ≤ℤ r.1) × BeginInOrder r.0 rs

-- the first ones, that begin below `low`, and what stands from the first one that doesn't
abbrev pub before : ℤ → List (ℤ × ℤ) → List (ℤ × ℤ)
before low [] = []
before low (r ∷ rs) = if int_lt r.0 low then r ∷ before low rs else []

abbrev pub after : ℤ → List (ℤ × ℤ) → List (ℤ × ℤ)
after low [] = []
after low (r ∷ rs) = if int_lt r.0 low then after low rs else r ∷ rs

-- two lists in order of the low ends
abbrev pub merged : List (ℤ × ℤ) → List (ℤ × ℤ) → List (ℤ × ℤ)
merged [] right = right
merged (r ∷ left) right = before r.0 right ++ (r ∷ merged left (after r.0 right))

-- what begins at `low` and stands before a hole that begins at `hole`
abbrev pub front : ℤ → ℤ → List (ℤ × ℤ)
front low hole = if int_lt low hole then (low, hole -ℤ pos 1) ∷ [] else []

-- an interval without the holes
abbrev pub pieces : ℤ × ℤ → List (ℤ × ℤ) → List (ℤ × ℤ)
pieces piece [] = piece ∷ []
pieces piece (hole ∷ holes) = if int_lt piece.1 hole.0 then piece ∷ [] else front piece.0 hole.0 ++ (if int_le piece.1 hole.1 then [] else pieces (int_max piece.0 (hole.1 +ℤ pos 1), piece.1) holes)

-- the holes that reach beyond an interval which ends at `high`
abbrev pub beyond : ℤ → List (ℤ × ℤ) → List (ℤ × ℤ)
beyond high [] = []
beyond high (hole ∷ holes) = if int_lt high hole.0 then hole ∷ holes else (if int_le high hole.1 then hole ∷ holes else beyond high holes)

-- intervals without the holes
abbrev pub less : List (ℤ × ℤ) → List (ℤ × ℤ) → List (ℤ × ℤ)
less [] holes = []
less (r ∷ rs) holes = pieces r holes ++ less rs (beyond r.1 holes)

-- how many numbers stand before each interval
abbrev pub starts : ℕ → List (ℤ × ℤ) → List ℕ
starts count [] = []
starts count (r ∷ rs) = count ∷ starts (count + size r) rs

abbrev pub total : ℕ → List (ℤ × ℤ) → ℕ
total count [] = count
total count (r ∷ rs) = total (count + size r) rs

-- where the k-th interval begins
abbrev pub low_at : List (ℤ × ℤ) → ℕ → ℤ
low_at ranges k = (slice_index_or ranges k (pos 0, pos 0)).0

-- none begins after one that stands behind it
abbrev pub Ascends : List (ℤ × ℤ) → Type 0
Ascends ranges = (i j : ℕ) → i ≤ j → j < length ranges → low_at ranges i ≤ℤ low_at ranges j

-- a range with its ends the right way round and in the range of an `Int`
abbrev pub IsRange : ℤ × ℤ → Type 0
IsRange r = (least ≤ℤ r.0) × (r.0 ≤ℤ r.1) × (r.1 ≤ℤ greatest)
