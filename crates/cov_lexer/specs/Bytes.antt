-- Tests of one byte.
use Rattle.std.specs.Prelude.{ℕ, Bool, not, ◌&&◌, ◌||◌, nat_eq, nat_le}
use Rattle.cov_lexer.specs.declared.bytes.Base.{Base}
use Rattle.cov_lexer.specs.declared.bytes.Base.TheVariants.{Binary, Octal, Decimal, Hexadecimal}
use Rattle.cov_lexer.specs.declared.bytes.Class.{Class}
use Rattle.cov_lexer.specs.declared.bytes.Class.TheVariants.{Word, Number, Space, Line, Inside, Digits}

-- a letter or `_`
abbrev pub is_letter : ℕ → Bool
is_letter b = nat_le 97 b && nat_le b 122 || nat_le 65 b && nat_le b 90 || nat_eq b 95

abbrev pub is_digit : ℕ → Bool
is_digit b = nat_le 48 b && nat_le b 57

-- what a name goes on with: a letter, `_`, a digit or `$`
abbrev pub is_word : ℕ → Bool
is_word b = is_letter b || is_digit b || nat_eq b 36

-- what a decimal number goes on with
abbrev pub is_number : ℕ → Bool
is_number b = is_digit b || nat_eq b 95

abbrev pub is_space : ℕ → Bool
is_space b = nat_eq b 32

-- space, tab, newline, carriage return or form feed
abbrev pub is_blank : ℕ → Bool
is_blank b = nat_eq b 32 || nat_eq b 9 || nat_eq b 10 || nat_eq b 13 || nat_eq b 12

-- what stands in a line comment
abbrev pub is_in_line : ℕ → Bool
is_in_line b = not (nat_eq b 10)

-- what stands between the quotes of a string
abbrev pub is_inside : ℕ → Bool
is_inside b = not (nat_eq b 34 || nat_eq b 10)

abbrev pub is_quote : ℕ → Bool
is_quote b = nat_eq b 34

abbrev pub is_dollar : ℕ → Bool
is_dollar b = nat_eq b 36

abbrev pub is_slash : ℕ → Bool
is_slash b = nat_eq b 47

abbrev pub is_apostrophe : ℕ → Bool
is_apostrophe b = nat_eq b 39

-- `s` or `S`
abbrev pub is_sign : ℕ → Bool
is_sign b = nat_eq b 115 || nat_eq b 83

-- the letter of a base, in either case
abbrev pub is_base : Base → ℕ → Bool
is_base Binary b = nat_eq b 98 || nat_eq b 66
is_base Octal b = nat_eq b 111 || nat_eq b 79
is_base Decimal b = nat_eq b 100 || nat_eq b 68
is_base Hexadecimal b = nat_eq b 104 || nat_eq b 72

-- `x`, `z` in either case, or `?`
abbrev pub is_unknown : ℕ → Bool
is_unknown b = nat_eq b 120 || nat_eq b 88 || nat_eq b 122 || nat_eq b 90 || nat_eq b 63

abbrev pub is_base_digit : Base → ℕ → Bool
is_base_digit Binary b = nat_le 48 b && nat_le b 49 || is_unknown b
is_base_digit Octal b = nat_le 48 b && nat_le b 55 || is_unknown b
is_base_digit Decimal b = is_digit b
is_base_digit Hexadecimal b = is_digit b || nat_le 97 b && nat_le b 102 || nat_le 65 b && nat_le b 70 || is_unknown b

-- a digit of the base, or `_`
abbrev pub is_base_more : Base → ℕ → Bool
is_base_more base b = is_base_digit base b || nat_eq b 95

-- what each class of bytes is
abbrev pub has : Class → ℕ → Bool
has Word = is_word
has Number = is_number
has Space = is_space
has Line = is_in_line
has Inside = is_inside
has (Digits base) = is_base_more base
