-- The digits of a change, and the value that they write (IEEE 1800-2017, 21.7.2.1).
use Rattle.std.specs.Prelude.{ℕ, List, ◌++◌, ◌-◌, length, drop, replicate, slice_index, nat_lt, ◌==◌, ◌||◌, Option, Bool, if◌then◌else◌}
use mathlib.Core.Bool.{◌&&◌}
use Rattle.std.specs.List.{list_all}
use Rattle.vcd_dump.specs.declared.dump.Bit4.{Bit4}
use Rattle.vcd_dump.specs.declared.dump.Bit4.TheVariants.{Zero, One, X, Z}
use Rattle.vcd_dump.specs.declared.dump.Change.{Change}
use Rattle.vcd_dump.specs.declared.header.Code.{Code}
use Rattle.vcd_dump.specs.Numbers.{number_in}

-- x and z are written in either case
abbrev pub is_x : ℕ → Bool
is_x byte = byte == 120 || byte == 88

abbrev pub is_z : ℕ → Bool
is_z byte = byte == 122 || byte == 90

abbrev pub is_digit : ℕ → Bool
is_digit byte = byte == 48 || byte == 49 || is_x byte || is_z byte

-- one digit or more, and nothing else
abbrev pub are_digits : List ℕ → Bool
are_digits text = nat_lt 0 (length text) && list_all is_digit text

abbrev pub bit_of : ℕ → Bit4
bit_of byte = if byte == 48 then Zero else if byte == 49 then One else if is_z byte then Z else X

-- what a short vector is extended with at its left: 0 where its first digit is 1, and else the first digit itself, which
-- is 0, x or z
abbrev pub filler : ℕ → ℕ
filler first = if first == 49 then 48 else first

-- the digits at a width: digits past it are cut at the left, and where there are fewer, more stand at the left
unfoldable pub at_width : (width : ℕ) → List ℕ → List ℕ
at_width width digits = replicate (width - length digits) (filler (slice_index digits 0)) ++ drop (length digits - width) digits

-- the number that the digits write at this width; none where one of them is x or z, or the number has more than 64 bits
unfoldable pub value_of : (width : ℕ) → List ℕ → Option ℕ
value_of width digits = number_in 2 (at_width width digits)

-- the last digit
unfoldable pub low_of : List ℕ → Bit4
low_of digits = bit_of (slice_index digits (length digits - 1))

abbrev pub change_of : Code → List ℕ → Change
change_of code digits = record { code = code.number; value = value_of code.width digits; low = low_of digits }
