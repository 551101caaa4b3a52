-- Numbers as they are written.
use Rattle.std.specs.Prelude.{ℕ, List, [], ◌∷◌, ◌+◌, ◌-◌, ◌*◌, ◌^◌, length, ◌==◌, nat_lt, nat_le, Option, Some, None, Bool, if◌then◌else◌}
use mathlib.Core.Bool.{◌&&◌}

abbrev pub is_digit_in : (base : ℕ) → ℕ → Bool
is_digit_in base byte = nat_le 48 byte && nat_lt byte (48 + base)

-- the number that is written by digits of a base behind those of a number; none where one of them is no such digit
abbrev pub number_from : (base : ℕ) → ℕ → List ℕ → Option ℕ
number_from base number [] = Some number
number_from base number (byte ∷ bytes) = if is_digit_in base byte then number_from base (base * number + (byte - 48)) bytes else None

-- a number of at most 64 bits
abbrev pub in_64_bits : Option ℕ → Option ℕ
in_64_bits None = None
in_64_bits (Some number) = if nat_lt number (2 ^ 64) then Some number else None

-- the number of at most 64 bits that digits of a base write; none where something else stands there
unfoldable pub number_in : (base : ℕ) → List ℕ → Option ℕ
number_in base bytes = if length bytes == 0 then None else in_64_bits (number_from base 0 bytes)

-- the number of at most 64 bits with one digit of a base behind it
abbrev pub with_digit : (base : ℕ) → ℕ → ℕ → Option ℕ
with_digit base number byte = if is_digit_in base byte then in_64_bits (Some (base * number + (byte - 48))) else None
