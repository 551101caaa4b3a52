-- When a number is in one of some ranges (IEEE 1800-2017, 19.5.1).
use Rattle.std.specs.Prelude.{ℤ, ◌≤ℤ◌, List, Any}

-- A set of numbers is given by ranges, the ends belong to them.
abbrev pub InRanges : ℤ → List (ℤ × ℤ) → Type 0
InRanges v ranges = Any (λ range. (range.0 ≤ℤ v) × (v ≤ℤ range.1)) ranges
