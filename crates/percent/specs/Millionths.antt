-- Percentages in millionths. Quotients are rounded down (IEEE 1800-2017, 19.11).
use Rattle.std.specs.Prelude.{ℕ, ◌*◌, ◌/◌, ◌==◌, List, length, if◌then◌else◌}
use Rattle.std.specs.List.{sum_by}

-- all of it
abbrev pub whole : ℕ
whole = 1000000

-- the part of the bins that are covered; all of it where there are no bins
abbrev pub full : ℕ → ℕ → ℕ
full covered bins = if bins == 0 then whole else whole * covered / bins

-- the sum of the weights of pairs of a weight and a value, and the sum of the values, each as often as it weighs
abbrev pub weights : List (ℕ × ℕ) → ℕ
weights parts = sum_by (λ part. part.0) parts

abbrev pub weighted_sum : List (ℕ × ℕ) → ℕ
weighted_sum parts = sum_by (λ part. part.0 * part.1) parts

-- the weighted mean; all of it where the weights sum to 0
abbrev pub mean : List (ℕ × ℕ) → ℕ
mean parts = if weights parts == 0 then whole else weighted_sum parts / weights parts

-- how many pairs there are, and their sums
pub record Sums : Type 0 where
  pub pairs : ℕ
  pub weight : ℕ
  pub total : ℕ

abbrev pub sums : List (ℕ × ℕ) → Sums
sums parts = record { pairs = length parts; weight = weights parts; total = weighted_sum parts }
