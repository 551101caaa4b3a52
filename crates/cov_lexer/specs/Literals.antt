-- What an integer literal means, by its parts (IEEE 1800-2017, 5.7.1).
use Rattle.std.specs.Prelude.{◌≡◌, ℕ, ◌+◌, ◌-◌, ◌*◌, ◌^◌, List, [], ◌∷◌, Bool, true, false, not, ◌&&◌, ◌||◌, ◌⊎◌, nat_eq, nat_le, nat_lt, cond, bit_or, count_by, find, take, drop, length, slice_index, Option, Some, None}
use Rattle.std.specs.List.{prefix_len}
use Rattle.cov_ground.specs.Limits.{most_bits}
use Rattle.cov_tree.specs.declared.literal.Literal.{Literal}
use Rattle.cov_lexer.specs.declared.bytes.Base.{Base}
use Rattle.cov_lexer.specs.declared.bytes.Base.TheVariants.{Binary, Octal, Decimal, Hexadecimal}
use Rattle.cov_lexer.specs.Bytes.{is_unknown, is_apostrophe, is_sign, is_digit, is_number, is_space, is_base, is_base_digit, is_base_more}
use Rattle.cov_lexer.specs.declared.token.TokenKind.TheVariants.{Based, Decimal as Number}
use Rattle.cov_lexer.specs.Forms.{Part, One, Many, HasForm, decimal, digits as digits_in, Item, Spells}

-- how many bits a digit stands for; none of its own where the base is ten
abbrev pub digit_bits : Base → ℕ
digit_bits Binary = 1
digit_bits Octal = 3
digit_bits Decimal = 0
digit_bits Hexadecimal = 4

abbrev pub radix : Base → ℕ
radix Binary = 2
radix Octal = 8
radix Decimal = 10
radix Hexadecimal = 16

-- a digit's value; 0 for an unknown one
abbrev pub digit_value : ℕ → ℕ
digit_value c = cond (is_digit c) (c - 48) (cond (nat_le 97 c && nat_le c 102) (c - 87) (cond (nat_le 65 c && nat_le c 70) (c - 55) 0))

-- the bits of a digit that are free: all or none
abbrev pub digit_free : Base → ℕ → ℕ
digit_free base c = cond (is_unknown c) (2 ^ digit_bits base - 1) 0

-- an underscore among the digits stands for nothing
abbrev pub is_gap : ℕ → Bool
is_gap c = nat_eq c 95

-- the number that digits spell, read on from n, where each digit has this value
abbrev pub number_from : ℕ → (ℕ → ℕ) → ℕ → List ℕ → ℕ
number_from r value n [] = n
number_from r value n (c ∷ cs) = number_from r value (cond (is_gap c) n (n * r + value c)) cs

unfoldable pub value_of : Base → List ℕ → ℕ
value_of base digits = number_from (radix base) digit_value 0 digits

unfoldable pub free_of : Base → List ℕ → ℕ
free_of base digits = number_from (radix base) (digit_free base) 0 digits

-- whether the leftmost digit is unknown
abbrev pub leads_unknown : Option ℕ → Bool
leads_unknown None = false
leads_unknown (Some c) = is_unknown c

-- the bits of the width above all digits, where the leftmost digit is unknown
abbrev pub above : Base → ℕ → List ℕ → ℕ
above base width digits =
    cond (leads_unknown (find (λ c. not (is_gap c)) digits)) (2 ^ width - 2 ^ (digit_bits base * count_by (λ c. not (is_gap c)) digits)) 0

-- whether each bit of the digits is in the width
abbrev pub fits_width : Base → ℕ → List ℕ → Bool
fits_width base width digits = nat_lt (value_of base digits) (2 ^ width) && nat_lt (free_of base digits) (2 ^ width)

-- a based literal of this width; none where its digits don't fit it
abbrev pub made : Bool → Bool → Base → ℕ → List ℕ → Option Literal
made sized signed base width digits =
    cond (fits_width base width digits)
    (Some (record { width = width; sized = sized; signed = signed; bits = value_of base digits; free = bit_or (free_of base digits) (above base width digits) }))
    None

-- without a size, 32 bits where the digits fit them, else most_bits
abbrev pub natural_width : Base → List ℕ → ℕ
natural_width base digits = cond (fits_width base 32 digits) 32 most_bits

-- a size is 1 to most_bits
abbrev pub of_size : Bool → Base → ℕ → List ℕ → Option Literal
of_size signed base size digits = cond (nat_lt 0 size && nat_le size most_bits) (made true signed base size digits) None

-- the meaning of a based literal: of the digits of its size (none where it has no size), whether it is signed, its base and
-- its digits; None where it is too wide
abbrev pub meaning : (size : List ℕ) → (signed : Bool) → Base → (digits : List ℕ) → Option Literal
meaning [] signed base digits = made false signed base (natural_width base digits) digits
meaning (c ∷ cs) signed base digits = of_size signed base (value_of Decimal (c ∷ cs)) digits

abbrev pub base_of : ℕ → Option Base
base_of c =
    cond (nat_eq c 98 || nat_eq c 66) (Some Binary)
    (cond (nat_eq c 111 || nat_eq c 79) (Some Octal)
    (cond (nat_eq c 100 || nat_eq c 68) (Some Decimal)
    (cond (nat_eq c 104 || nat_eq c 72) (Some Hexadecimal) None)))

abbrev pub plain : ℕ → ℕ → Literal
plain width value = record { width = width; sized = false; signed = true; bits = value; free = 0 }

-- the meaning of a decimal literal of this value
abbrev pub decimal_literal : ℕ → Option Literal
decimal_literal value = cond (nat_lt value (2 ^ 31)) (Some (plain 32 value)) (cond (nat_lt value (2 ^ 63)) (Some (plain 64 value)) None)

-- where the parts of a literal stand

abbrev pub spaces : List Part
spaces = Many is_space ∷ []

-- these are the digits of a size whose literal has its apostrophe at i, or there is no size
abbrev pub IsSize : List ℕ → List ℕ → ℕ → Type 0
IsSize text size i =
    ((size ≡ []) × (i ≡ 0))
    ⊎ ((n : ℕ) × HasForm text decimal 0 n × HasForm text spaces n i × (size ≡ take n text))

-- the apostrophe, and an `s` where the literal is signed
abbrev pub marks : Bool → List Part
marks true = One is_apostrophe ∷ One is_sign ∷ []
marks false = One is_apostrophe ∷ []

-- the text is a based literal of these parts, by the forms of the lexer
pub record IsBased (text : List ℕ) (size : List ℕ) (signed : Bool) (base : Base) (digits : List ℕ) : Type 0 where
  pub apostrophe : ℕ
  pub letter : ℕ
  pub first : ℕ
  pub sized : IsSize text size apostrophe
  pub marked : HasForm text (marks signed) apostrophe letter
  pub in_base : HasForm text (One (is_base base) ∷ spaces) letter first
  pub spelled : HasForm text (digits_in base) first (length text)
  pub are : digits ≡ drop first text

-- the text is a decimal literal
abbrev pub IsDecimal : List ℕ → Type 0
IsDecimal text = HasForm text decimal 0 (length text)

-- the text is a based literal of some parts
abbrev pub HasParts : List ℕ → Type 0
HasParts text = (size : List ℕ) × (signed : Bool) × (base : Base) × (digits : List ℕ) × IsBased text size signed base digits

abbrev pub IsLiteral : List ℕ → Type 0
IsLiteral text = IsDecimal text ⊎ HasParts text

-- the lexer finds a literal from i up to j
abbrev pub IsNumber : List ℕ → ℕ → ℕ → Type 0
IsNumber text i j = Spells text i (Item Number) j ⊎ Spells text i (Item Based) j

-- the meaning of a text, which is read from its front

-- where the bytes end that pass the test, from i on
abbrev pub run_to : (ℕ → Bool) → List ℕ → ℕ → ℕ
run_to p text i = i + prefix_len p (drop i text)

-- the digits of the base are all that stands from i on
abbrev pub are_digits : Base → List ℕ → ℕ → Bool
are_digits base text i = is_base_digit base (slice_index text i) && nat_eq (run_to (is_base_more base) text (i + 1)) (length text)

abbrev pub in_base : List ℕ → List ℕ → Bool → Option Base → ℕ → Option Literal
in_base text size signed None i = None
in_base text size signed (Some base) i = cond (are_digits base text i) (meaning size signed base (drop i text)) None

-- the letter of the base stands at i
abbrev pub lettered : List ℕ → List ℕ → Bool → ℕ → Option Literal
lettered text size signed i = in_base text size signed (base_of (slice_index text i)) (run_to is_space text (i + 1))

-- the apostrophe stands at i
abbrev pub based_literal : List ℕ → List ℕ → ℕ → Option Literal
based_literal text size i =
    cond (is_apostrophe (slice_index text i))
    (cond (is_sign (slice_index text (i + 1))) (lettered text size true (i + 2)) (lettered text size false (i + 1)))
    None

-- the decimal digits at the front end at n
abbrev pub numbered : List ℕ → ℕ → Option Literal
numbered text n =
    cond (nat_eq n (length text)) (decimal_literal (value_of Decimal text)) (based_literal text (take n text) (run_to is_space text n))

-- the meaning of a decimal or based literal with this text; None where it is too wide, and where the text is no literal
unfoldable pub literal_of : List ℕ → Option Literal
literal_of text = cond (is_digit (slice_index text 0)) (numbered text (run_to is_number text 1)) (based_literal text [] 0)
