-- The numbers of a type: of so many bits, and signed in two's complement or unsigned (IEEE 1800-2017, 6.11).
use Rattle.std.specs.Prelude.{ℤ, pos, ◌-ℤ◌, ℕ, ◌-◌, ◌*◌, ◌^◌, nat_le, Bool, ◌&&◌, if◌then◌else◌}

abbrev pub lowest : ℕ → Bool → ℤ
lowest width signed = if signed then pos 0 -ℤ pos (2 ^ (width - 1)) else pos 0

abbrev pub highest : ℕ → Bool → ℤ
highest width signed = if signed then pos (2 ^ (width - 1)) -ℤ pos 1 else pos (2 ^ width) -ℤ pos 1

-- the range of all its numbers
abbrev pub domain : ℕ → Bool → ℤ × ℤ
domain width signed = (lowest width signed, highest width signed)

-- the number that bits stand for: without a sign, or in two's complement where it is signed
abbrev pub number_of : (width : ℕ) → (signed : Bool) → (bits : ℕ) → ℤ
number_of width signed bits = if signed && nat_le (2 ^ width) (2 * bits) then pos bits -ℤ pos (2 ^ width) else pos bits
