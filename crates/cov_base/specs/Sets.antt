-- Sets of whole numbers, by the numbers that ranges stand for, written out.
use Rattle.std.specs.Prelude.{ℤ, pos, negsuc, ◌+ℤ◌, ◌-ℤ◌, ◌≤ℤ◌, int_lt, int_le, ℕ, zero, suc, ◌-◌, ◌^◌, List, [], ◌∷◌, ◌++◌, Bool, ◌&&◌, not, if◌then◌else◌}
use Rattle.std.specs.Ordering.{int_eq}
use Rattle.std.specs.List.{list_any, filter}

-- the least and the greatest number of an `Int`
abbrev pub least : ℤ
least = negsuc (2 ^ 63 - 1)

abbrev pub greatest : ℤ
greatest = pos (2 ^ 64 - 1)

-- the number is one of an `Int`
abbrev pub IsInt : ℤ → Type 0
IsInt v = (least ≤ℤ v) × (v ≤ℤ greatest)

-- ---- ranges written out

-- the numbers from `low` on, so many, ascending
abbrev pub count_from : ℤ → ℕ → List ℤ
count_from low zero = []
count_from low (suc n) = low ∷ count_from (low +ℤ pos 1) n

-- a number, or 0 where it is below 0
abbrev pub natural : ℤ → ℕ
natural (pos n) = n
natural (negsuc n) = 0

-- how many numbers stand from the low to the high end; none where the ends are the wrong way round
abbrev pub size : ℤ × ℤ → ℕ
size range = natural ((range.1 +ℤ pos 1) -ℤ range.0)

-- a range written out: its numbers from its low to its high end
unfoldable pub span : ℤ × ℤ → List ℤ
span range = count_from range.0 (size range)

-- ranges written out, one after the other
unfoldable pub written : List (ℤ × ℤ) → List ℤ
written [] = []
written (range ∷ ranges) = span range ++ written ranges

-- ---- membership

-- the number is in the list
abbrev pub is_in : List ℤ → ℤ → Bool
is_in numbers v = list_any (int_eq v) numbers

-- the numbers of the first list that are not in the second
unfoldable pub without : List ℤ → List ℤ → List ℤ
without numbers others = filter (λ v. not (is_in others v)) numbers

-- the number is in the range
abbrev pub is_within : ℤ → ℤ × ℤ → Bool
is_within v range = int_le range.0 v && int_le v range.1

-- the number is in one of the ranges
abbrev pub covers : List (ℤ × ℤ) → ℤ → Bool
covers ranges v = list_any (is_within v) ranges

-- ---- the normal form

-- a number put into an ascending list, once
abbrev pub put : ℤ → List ℤ → List ℤ
put v [] = v ∷ []
put v (x ∷ xs) = if int_lt v x then v ∷ x ∷ xs else (if int_lt x v then x ∷ put v xs else x ∷ xs)

-- the numbers of a list in ascending order, each once
abbrev pub ascending : List ℤ → List ℤ
ascending [] = []
ascending (x ∷ xs) = put x (ascending xs)

-- a number before intervals that begin above it: it joins the first one where that begins with the next number
abbrev pub extend : ℤ → List (ℤ × ℤ) → List (ℤ × ℤ)
extend x [] = (x, x) ∷ []
extend x (r ∷ rs) = if int_eq (x +ℤ pos 1) r.0 then (x, r.1) ∷ rs else (x, x) ∷ r ∷ rs

-- the runs of neighbours in an ascending list
abbrev pub runs : List ℤ → List (ℤ × ℤ)
runs [] = []
runs (x ∷ xs) = extend x (runs xs)

-- The set of the numbers of a list, as intervals in normal form: the runs of neighbours among its numbers in
-- ascending order.
unfoldable pub set_of : List ℤ → List (ℤ × ℤ)
set_of numbers = runs (ascending numbers)

-- two ranges are the same
abbrev pub is_same_range : ℤ × ℤ → ℤ × ℤ → Bool
is_same_range a b = int_eq a.0 b.0 && int_eq a.1 b.1

-- intervals from `low` on, in order, none empty, with a number between any two that is in neither
abbrev pub IsNormalFrom : ℤ → List (ℤ × ℤ) → Type 0
IsNormalFrom low [] = Unit {0}
IsNormalFrom low (r ∷ rs) = (low ≤ℤ r.0) × (r.0 ≤ℤ r.1) × IsNormalFrom (r.1 +ℤ pos 2) rs

-- no interval ends above `high`
abbrev pub EndsBy : ℤ → List (ℤ × ℤ) → Type 0
EndsBy high [] = Unit {0}
EndsBy high (r ∷ rs) = (r.1 ≤ℤ high) × EndsBy high rs

-- intervals in normal form whose ends are numbers of an `Int`
pub record IsNormalForm (intervals : List (ℤ × ℤ)) : Type 0 where
  pub normal : IsNormalFrom least intervals
  pub ends : EndsBy greatest intervals
