-- What intervals have of a range. Public contracts cite none of it.
use Rattle.std.specs.Prelude.{ℤ, ◌<ℤ◌, ℕ, zero, suc, List, [], ◌∷◌}
use Rattle.std.specs.Int.{int_max, int_min}
use Rattle.cov_base.specs.Sets.{IsNormalFrom}

-- the numbers that are in both ranges
abbrev pub clip : (range interval : ℤ × ℤ) → ℤ × ℤ
clip range interval = (int_max range.0 interval.0, int_min range.1 interval.1)

-- intervals in order, none empty, with a number between any two
abbrev pub StandInOrder : List (ℤ × ℤ) → Type 0
StandInOrder intervals = (low : ℤ) × IsNormalFrom low intervals

-- so many of the first intervals end below a number
abbrev pub EndBelow : (low : ℤ) → List (ℤ × ℤ) → ℕ → Type 0
EndBelow low intervals zero = Unit {0}
EndBelow low [] (suc n) = Unit {0}
EndBelow low (interval ∷ intervals) (suc n) = (interval.1 <ℤ low) × EndBelow low intervals n
