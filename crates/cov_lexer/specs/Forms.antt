-- The forms of tokens and separators.
use Rattle.std.specs.Prelude.{◌≡◌, ℕ, ◌+◌, ◌<◌, ◌≤◌, List, [], ◌∷◌, Bool, true, false, codes, ◌⊎◌, length, slice_index, slice_range}
use Rattle.cov_lexer.specs.declared.bytes.Base.{Base}
use Rattle.cov_lexer.specs.declared.token.TokenKind.{TokenKind}
use Rattle.cov_lexer.specs.declared.token.TokenKind.TheVariants.{Ident, Keyword, System, Decimal, Based, Text, Operator, NotSupported}
use Rattle.cov_lexer.specs.Bytes.{is_letter, is_digit, is_word, is_number, is_space, is_blank, is_in_line, is_inside, is_quote, is_dollar, is_slash, is_apostrophe, is_sign, is_base, is_base_digit, is_base_more}
use Rattle.cov_lexer.specs.Spellings.{operators, is_keyword}
use Rattle.cov_lexer.specs.Operators.{stands, IsOneAt}

-- a part of a form: one byte that passes the test, at most one, or any number of them
pub data Part : Type 0 where
  One : (ℕ → Bool) → Part
  Maybe : (ℕ → Bool) → Part
  Many : (ℕ → Bool) → Part

-- the bytes from i up to j all pass the test
abbrev pub AllPass : (ℕ → Bool) → List ℕ → ℕ → ℕ → Type 0
AllPass p text i j = (q : ℕ) → i ≤ q → q < j → p (slice_index text q) ≡ true

-- a byte that passes the test stands at i
abbrev pub Passes : (ℕ → Bool) → List ℕ → ℕ → Type 0
Passes p text i = (i < length text) × (p (slice_index text i) ≡ true)

-- the bytes from i up to j are parts of these kinds, in this order
abbrev pub HasForm : List ℕ → List Part → ℕ → ℕ → Type 0
HasForm text [] i j = i ≡ j
HasForm text (One p ∷ ps) i j = Passes p text i × HasForm text ps (i + 1) j
HasForm text (Maybe p ∷ ps) i j = HasForm text ps i j ⊎ (Passes p text i × HasForm text ps (i + 1) j)
HasForm text (Many p ∷ ps) i j = (m : ℕ) × (i ≤ m) × (m ≤ length text) × AllPass p text i m × HasForm text ps m j

-- the forms, one a line

abbrev pub name : List Part
name = One is_letter ∷ Many is_word ∷ []

abbrev pub system_name : List Part
system_name = One is_dollar ∷ One is_word ∷ Many is_word ∷ []

abbrev pub decimal : List Part
decimal = One is_digit ∷ Many is_number ∷ []

abbrev pub digits : Base → List Part
digits base = One (is_base_digit base) ∷ Many (is_base_more base) ∷ []

abbrev pub base_and_digits : Base → List Part
base_and_digits base = One (is_base base) ∷ Many is_space ∷ digits base

abbrev pub based : Base → List Part
based base = One is_apostrophe ∷ Maybe is_sign ∷ base_and_digits base

abbrev pub sized : Base → List Part
sized base = One is_digit ∷ Many is_number ∷ Many is_space ∷ based base

abbrev pub quoted : List Part
quoted = One is_quote ∷ Many is_inside ∷ One is_quote ∷ []

abbrev pub blank : List Part
blank = One is_blank ∷ []

abbrev pub line_comment : List Part
line_comment = One is_slash ∷ One is_slash ∷ Many is_in_line ∷ []

-- `/*` up to the first `*/` behind it
pub record IsBlockComment (text : List ℕ) (i : ℕ) (j : ℕ) : Type 0 where
  pub opens : stands text i (codes "/*") ≡ true
  pub close : ℕ
  pub behind : i + 2 ≤ close
  pub closes : stands text close (codes "*/") ≡ true
  pub first : (q : ℕ) → i + 2 ≤ q → q < close → stands text q (codes "*/") ≡ false
  pub ends : j ≡ close + 2

-- a piece of a text
pub data Piece : Type 0 where
  Separator : Piece
  Item : TokenKind → Piece

-- the bytes from i up to j have a form of this piece
abbrev pub Spells : List ℕ → ℕ → Piece → ℕ → Type 0
Spells text i Separator j = HasForm text blank i j ⊎ (HasForm text line_comment i j ⊎ IsBlockComment text i j)
Spells text i (Item Ident) j = HasForm text name i j × (is_keyword (slice_range text i j) ≡ false)
Spells text i (Item Keyword) j = HasForm text name i j × (is_keyword (slice_range text i j) ≡ true)
Spells text i (Item System) j = HasForm text system_name i j
Spells text i (Item Decimal) j = HasForm text decimal i j
Spells text i (Item Based) j = (base : Base) × (HasForm text (based base) i j ⊎ HasForm text (sized base) i j)
Spells text i (Item Text) j = HasForm text quoted i j
Spells text i (Item Operator) j = IsOneAt text i Operator operators j
Spells text i (Item NotSupported) j = IsOneAt text i NotSupported operators j

-- the bytes from i up to j are this piece: each other one that begins there is shorter
pub record IsPiece (text : List ℕ) (i : ℕ) (p : Piece) (j : ℕ) : Type 0 where
  pub spells : Spells text i p j
  pub longest : (p' : Piece) (n : ℕ) → Spells text i p' n → (n < j) ⊎ ((n ≡ j) × (p' ≡ p))
