-- Decimal numbers as they are written in words.
use Rattle.std.specs.Prelude.{ℕ, List, [], ◌∷◌, ◌+◌, ◌-◌, ◌*◌, ◌^◌, length, nat_lt, nat_le, Option, Some, None, Bool, if◌then◌else◌}
use mathlib.Core.Bool.{◌&&◌}

abbrev pub is_digit : ℕ → Bool
is_digit byte = nat_le 48 byte && nat_lt byte 58

-- the number that is written by digits behind those of a number; none where one of them is no digit
abbrev pub number_from : ℕ → List ℕ → Option ℕ
number_from number [] = Some number
number_from number (byte ∷ bytes) = if is_digit byte then number_from (10 * number + (byte - 48)) bytes else None

-- a number of at most 64 bits
abbrev pub in_64_bits : Option ℕ → Option ℕ
in_64_bits None = None
in_64_bits (Some number) = if nat_lt number (2 ^ 64) then Some number else None

-- the number of at most 64 bits with one digit behind it
abbrev pub with_digit : ℕ → ℕ → Option ℕ
with_digit number byte = if is_digit byte then in_64_bits (Some (10 * number + (byte - 48))) else None

-- the number of at most 64 bits that a word of one digit to so many digits writes; zeros may stand in front
unfoldable pub written : (digits : ℕ) → List ℕ → Option ℕ
written digits word = if nat_lt 0 (length word) && nat_le (length word) digits then in_64_bits (number_from 0 word) else None

-- it, where it is not less than the least and not more than the most
abbrev pub bounded : (least most : ℕ) → Option ℕ → Option ℕ
bounded least most None = None
bounded least most (Some number) = if nat_le least number && nat_le number most then Some number else None
