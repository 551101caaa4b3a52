-- Numbers by their distance from the lowest one of a pattern's type, and how many of the first ones agree. Public
-- contracts cite none of it.
use Rattle.std.specs.Prelude.{ℕ, zero, suc, ◌+◌, ◌^◌, nat_le, ℤ, pos, negsuc, ◌-ℤ◌, Bool, if◌then◌else◌}
use Rattle.std.specs.List.{list_all}
use Rattle.std.specs.Int.{bit_at}
use Rattle.bin_spec.specs.Parts.{places}
use Rattle.bin_spec.specs.Types.{lowest}
use Rattle.wildcard_bins.specs.declared.pattern.Pattern.{Pattern}
use Rattle.wildcard_bins.specs.Halves.{has_half}

-- how many of the first numbers pass a test
unfoldable pub many : (ℕ → Bool) → ℕ → ℕ
many test zero = 0
many test (suc n) = many test n + (if test n then 1 else 0)

-- the number so far above the lowest one has allowed bits at the first places
unfoldable pub meets : Pattern → ℕ → ℕ → Bool
meets pattern k distance = list_all (λ place. has_half pattern place (bit_at distance place)) (places k)

-- how many of the first distances have allowed bits at the first places
abbrev pub met_below : Pattern → ℕ → ℕ → ℕ
met_below pattern k bound = many (meets pattern k) bound

abbrev pub or_none : Bool → ℕ → ℕ
or_none half count = if half then count else 0

-- a distance, `most` at most
abbrev pub cut : (most : ℕ) → ℤ → ℕ
cut most (pos n) = if nat_le n most then n else most
cut most (negsuc n) = 0

-- how far a number is above the lowest one of a pattern, from 0 up to how many numbers its type has
abbrev pub distance : Pattern → ℤ → ℕ
distance pattern v = cut (2 ^ pattern.width) (v -ℤ lowest pattern.width pattern.signed)
