-- The ranges of a pattern, place by place from the lowest one on: the numbers of a type in steps from its lowest one,
-- and which half of the next 2 ^ (place + 1) numbers has a bit that is allowed. Public contracts cite none of it.
use Rattle.std.specs.Prelude.{◌≡◌, ℤ, pos, ◌+ℤ◌, ◌-ℤ◌, ◌≤ℤ◌, ℕ, zero, suc, ◌*◌, ◌<◌, ◌≤◌, ◌+◌, ◌-◌, ◌^◌, ◌==◌, Bool, ◌&&◌, List, [], ◌∷◌, ◌++◌, map, if◌then◌else◌}
use Rattle.std.specs.Int.{bit_at}
use Rattle.cov_base.specs.Sets.{greatest}
use Rattle.wildcard_bins.specs.declared.pattern.Pattern.{Pattern}
use Rattle.wildcard_bins.specs.Patterns.{allows}

-- the bit that a number has at a place where its distance from the lowest number of the type has `bit`: the other one
-- where the place has the sign
abbrev pub own_bit : Pattern → ℕ → ℕ → ℕ
own_bit pattern place bit = if pattern.signed && place + 1 == pattern.width then 1 - bit else bit

-- the numbers whose distance from the lowest one has `bit` at the place have a bit there that is allowed
abbrev pub has_half : Pattern → ℕ → ℕ → Bool
has_half pattern place bit = allows pattern place (own_bit pattern place bit)

-- the range that is so much higher
abbrev pub moved : ℕ → ℤ × ℤ → ℤ × ℤ
moved step range = (range.0 +ℤ pos step, range.1 +ℤ pos step)

-- a range with its ends the right way round, whose numbers can be so much higher
abbrev pub IsMovable : ℕ → ℤ × ℤ → Type 0
IsMovable step range = (range.0 ≤ℤ range.1) × ((range.1 +ℤ pos step) ≤ℤ greatest)

-- ranges of the lower half, and the same ones in the upper half
abbrev pub halves : Bool → Bool → ℕ → List (ℤ × ℤ) → List (ℤ × ℤ)
halves lower upper step ranges = (if lower then ranges else []) ++ (if upper then map (moved step) ranges else [])

-- so many places stand below the lowest one that isn't free; all where each is free
pub record IsLowestFixed (pattern : Pattern) (first : ℕ) : Type 0 where
  pub within : first ≤ pattern.width
  pub free : (place : ℕ) → place < first → bit_at pattern.free place ≡ 1
  pub fixed : first < pattern.width → bit_at pattern.free first ≡ 0

-- how many ranges so many places give from the lowest one on that isn't free: twice as many for each further free one
abbrev pub count_above : Pattern → ℕ → ℕ → ℕ
count_above pattern first zero = 1
count_above pattern first (suc n) = count_above pattern first n * (1 + bit_at pattern.free (first + n))

-- the ranges from `low` on that the places below `first`, each of them free, and so many further ones give
abbrev pub ranges_above : Pattern → ℕ → ℤ → ℕ → List (ℤ × ℤ)
ranges_above pattern first low zero = (low, (low +ℤ pos (2 ^ first)) -ℤ pos 1) ∷ []
ranges_above pattern first low (suc n) = halves (has_half pattern (first + n) 0) (has_half pattern (first + n) 1) (2 ^ (first + n)) (ranges_above pattern first low n)
