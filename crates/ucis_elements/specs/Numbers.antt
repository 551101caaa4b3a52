-- Sets of numbers, patterns and transition items as text.
use Rattle.std.specs.Prelude.{ℤ, pos, ◌+ℤ◌, ◌-ℤ◌, ℕ, zero, suc, ◌+◌, ◌-◌, ◌*◌, ◌^◌, ◌==◌, Bool, List, [], ◌∷◌, ◌++◌, codes, decimal, if◌then◌else◌}
use Rattle.std.specs.List.{flat_map}
use Rattle.std.specs.Fmt.{signed_decimal}
use Rattle.std.specs.Int.{bit_at}
use Rattle.std.specs.Ordering.{int_eq}
use Rattle.trans_seq.specs.declared.seq.Item.{Item}
use Rattle.trans_seq.specs.declared.seq.Repeat.{Repeat}
use Rattle.trans_seq.specs.declared.seq.Repeat.TheVariants.{Once, Consec, Goto, NonConsec}
use Rattle.wildcard_bins.specs.declared.pattern.Pattern.{Pattern}

-- ---- transition items, as they are written in a design text (IEEE 1800-2017, 19.5.2)

-- `v`, or `[low:high]`
abbrev pub interval_text : ℤ × ℤ → List ℕ
interval_text range = if int_eq range.0 range.1 then signed_decimal range.0 else 91 ∷ (signed_decimal range.0 ++ 58 ∷ (signed_decimal range.1 ++ 93 ∷ []))

-- an interval behind another
abbrev pub further_text : ℤ × ℤ → List ℕ
further_text range = 44 ∷ interval_text range

-- the intervals of a set, with commas between them
unfoldable pub set_text : List (ℤ × ℤ) → List ℕ
set_text [] = []
set_text (range ∷ ranges) = interval_text range ++ flat_map further_text ranges

-- `[MARKlow:high]`
abbrev pub bounds_text : (mark : List ℕ) → (low high : ℕ) → List ℕ
bounds_text mark low high = 91 ∷ (mark ++ (decimal low ++ 58 ∷ (decimal high ++ 93 ∷ [])))

abbrev pub repeat_text : Repeat → List ℕ
repeat_text Once = []
repeat_text (Consec low high) = bounds_text (codes "*") low high
repeat_text (Goto low high) = bounds_text (codes "->") low high
repeat_text (NonConsec low high) = bounds_text (codes "=") low high

unfoldable pub item_text : Item → List ℕ
item_text item = set_text item.set ++ repeat_text item.repeat

-- ---- patterns (19.5.4)

-- the digit of a place: `?` where it is free
abbrev pub place_text : Pattern → ℕ → ℕ
place_text pattern place = if bit_at pattern.free place == 1 then 63 else 48 + bit_at pattern.bits place

-- the digits of so many lowest places, the highest first
abbrev pub places_text : Pattern → ℕ → List ℕ
places_text pattern zero = []
places_text pattern (suc place) = place_text pattern place ∷ places_text pattern place

-- a literal of the pattern, as `4'b1??0`, or `4'sb1??0` where its numbers are signed
unfoldable pub pattern_text : Pattern → List ℕ
pattern_text pattern = decimal pattern.width ++ 39 ∷ ((if pattern.signed then codes "sb" else codes "b") ++ places_text pattern pattern.width)

-- the bit of a place, with this one where it is free
abbrev pub filled_bit : Pattern → (bit place : ℕ) → ℕ
filled_bit pattern bit place = if bit_at pattern.free place == 1 then bit else bit_at pattern.bits place

-- the number of so many lowest places, with this bit at each one that is free
abbrev pub filled : Pattern → (bit places : ℕ) → ℕ
filled pattern bit zero = 0
filled pattern bit (suc place) = filled pattern bit place + 2 ^ place * filled_bit pattern bit place

-- The same of a pattern of numbers with a sign, whose place counts below zero and has `sign` where it is free (two's
-- complement).
abbrev pub signed_ending : Pattern → (bit sign : ℕ) → ℤ
signed_ending pattern bit sign = pos (filled pattern bit (pattern.width - 1)) -ℤ pos (2 ^ (pattern.width - 1) * filled_bit pattern sign (pattern.width - 1))

abbrev pub ending : Pattern → (bit sign : ℕ) → ℤ
ending pattern bit sign = if pattern.signed then signed_ending pattern bit sign else pos (filled pattern bit pattern.width)

-- the least and the greatest number that agrees with a pattern
abbrev pub pattern_range : Pattern → ℤ × ℤ
pattern_range pattern = (ending pattern 0 1, ending pattern 1 0)
