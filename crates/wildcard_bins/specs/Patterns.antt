-- Patterns of bits, some of whose places are free (IEEE 1800-2017, 19.5.4).
use Rattle.std.specs.Prelude.{◌≡◌, ℤ, pos, negsuc, ℕ, suc, ◌<◌, ◌-◌, ◌^◌, ◌==◌, Bool, ◌&&◌, ◌||◌, List, length, filter}
use Rattle.std.specs.List.{list_all}
use Rattle.std.specs.Int.{bit_at}
use Rattle.cov_ground.specs.Limits.{most_ranges}
use Rattle.cov_base.specs.Sets.{span, is_within, set_of}
use Rattle.bin_spec.specs.Parts.{places}
use Rattle.bin_spec.specs.Types.{domain}
use Rattle.wildcard_bins.specs.declared.pattern.Pattern.{Pattern}

-- the bits of a number of so many places, in two's complement
abbrev pub bits_of : ℕ → ℤ → ℕ
bits_of width (pos n) = n
bits_of width (negsuc n) = 2 ^ width - suc n

-- the place is free, or the pattern has this bit there
abbrev pub allows : Pattern → ℕ → ℕ → Bool
allows pattern place bit = bit_at pattern.free place == 1 || bit == bit_at pattern.bits place

-- The number is one of the pattern's width and sign, and at each place that isn't free it has the bit of the pattern.
unfoldable pub agrees : Pattern → ℤ → Bool
agrees pattern v = is_within v (domain pattern.width pattern.signed) && list_all (λ place. allows pattern place (bit_at (bits_of pattern.width v) place)) (places pattern.width)

-- the numbers that agree with a pattern, ascending
unfoldable pub agreeing : Pattern → List ℤ
agreeing pattern = filter (agrees pattern) (span (domain pattern.width pattern.signed))

-- the set of these numbers has so many intervals, which are more than a set may have
abbrev pub IsTooMany : Pattern → ℕ → Type 0
IsTooMany pattern count = (most_ranges < length (set_of (agreeing pattern))) × (count ≡ length (set_of (agreeing pattern)))
