-- Automatic bins (IEEE 1800-2017, 19.5.3).
use Rattle.std.specs.Prelude.{ℤ, pos, ◌≤ℤ◌, ℕ, min, ◌^◌, Bool, List, [], ◌∷◌, map}
use Rattle.cov_base.specs.Sets.{span}
use Rattle.bin_spec.specs.Parts.{parts}
use Rattle.bin_spec.specs.Types.{domain}

-- All numbers of a type, ascending, spread over one bin for each number, and over `most` bins where that is fewer.
abbrev pub automatic_parts : ℕ → Bool → ℕ → List (List ℤ)
automatic_parts width signed most = parts (span (domain width signed)) (min (2 ^ width) most)

-- the first and the last number of a list
abbrev pub first_number : List ℤ → ℤ
first_number [] = pos 0
first_number (v ∷ vs) = v

abbrev pub last_number : List ℤ → ℤ
last_number [] = pos 0
last_number (v ∷ []) = v
last_number (v ∷ w ∷ ws) = last_number (w ∷ ws)

abbrev pub ends_of : List ℤ → ℤ × ℤ
ends_of numbers = (first_number numbers, last_number numbers)

-- the automatic bins, each by its first and its last number
abbrev pub automatic_ranges : ℕ → Bool → ℕ → List (ℤ × ℤ)
automatic_ranges width signed most = map ends_of (automatic_parts width signed most)

-- each range has its ends the right way round. Public contracts cite none of it.
abbrev pub AllInOrder : List (ℤ × ℤ) → Type 0
AllInOrder [] = Unit {0}
AllInOrder (range ∷ ranges) = (range.0 ≤ℤ range.1) × AllInOrder ranges
