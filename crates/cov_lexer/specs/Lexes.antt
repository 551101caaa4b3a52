-- The tokens of a text, and why a text has none.
use Rattle.std.specs.Prelude.{◌≡◌, ◌≢◌, ℕ, zero, suc, ◌+◌, ◌<◌, ◌≤◌, List, [], ◌∷◌, Bool, true, false, codes, ◌⊎◌, length, slice_index, slice_range, None, IsSome}
use Rattle.cov_ground.specs.Limits.{longest_name}
use Rattle.cov_lexer.specs.declared.token.TokenKind.{TokenKind}
use Rattle.cov_lexer.specs.declared.token.TokenKind.TheVariants.{Ident, Keyword, System, Decimal, Based, Text, Operator, NotSupported}
use Rattle.cov_lexer.specs.declared.token.Token.{Token}
use Rattle.cov_lexer.specs.declared.token.LexFault.{LexFault}
use Rattle.cov_lexer.specs.declared.token.LexFault.TheVariants.{BadByte, OpenComment, OpenString, LiteralTooWide, NameTooLong, Memory}
use Rattle.cov_lexer.specs.declared.kind.Kind.{Kind}
use Rattle.cov_lexer.specs.Spellings.{kind_of}
use Rattle.cov_lexer.specs.Operators.{stands}
use Rattle.cov_lexer.specs.Forms.{Piece, Separator, Item, Spells, IsPiece}
use Rattle.cov_lexer.specs.Literals.{literal_of}

abbrev pub opens_comment : List ℕ → ℕ → Bool
opens_comment text i = stands text i (codes "/*")

-- a name is within its limit, and a literal has a meaning
abbrev pub IsWithin : List ℕ → ℕ → TokenKind → ℕ → Type 0
IsWithin text i Ident j = j ≤ i + longest_name
IsWithin text i Decimal j = IsSome (literal_of (slice_range text i j))
IsWithin text i Based j = IsSome (literal_of (slice_range text i j))
IsWithin text i Keyword j = Unit {0}
IsWithin text i System j = Unit {0}
IsWithin text i Text j = Unit {0}
IsWithin text i Operator j = Unit {0}
IsWithin text i NotSupported j = Unit {0}

-- the bytes from i up to j are a token of this kind that may stand
pub record IsToken (text : List ℕ) (i : ℕ) (k : TokenKind) (j : ℕ) : Type 0 where
  pub piece : IsPiece text i (Item k) j
  pub no_comment : opens_comment text i ≡ false
  pub within : IsWithin text i k j

-- the kind is what the bytes from i up to j spell as such a token
abbrev pub IsSpelled : List ℕ → ℕ → TokenKind → ℕ → Kind → Type 0
IsSpelled text i k j spelled = spelled ≡ kind_of (slice_range text i j) k

-- so many separators and these tokens cover the text from i up to j; n is the end of the first
abbrev pub Covers : List ℕ → ℕ → ℕ → List Token → ℕ → Type 0
Covers text zero i ts j = (ts ≡ []) × (i ≡ j)
Covers text (suc c) i ts j =
    (n : ℕ) × (i < n) × (n ≤ length text)
    × ((IsPiece text i Separator n × Covers text c n ts j)
    ⊎ ((t : Token) × (rest : List Token) × (ts ≡ t ∷ rest) × (t.«at» ≡ i) × (i + t.len ≡ n) × IsToken text i t.kind n × IsSpelled text i t.kind n t.spelled × Covers text c n rest j))

-- these are the tokens of the text
abbrev pub Lexes : List ℕ → List Token → Type 0
Lexes text ts = (c : ℕ) × Covers text c 0 ts (length text)

-- nothing begins at k
abbrev pub IsNothing : List ℕ → ℕ → Type 0
IsNothing text k = (k < length text) × (opens_comment text k ≡ false) × ((p : Piece) (n : ℕ) → Spells text k p n → ⊥)

abbrev pub place : LexFault → ℕ
place (BadByte k) = k
place (OpenComment k) = k
place (OpenString k) = k
place (LiteralTooWide k) = k
place (NameTooLong k) = k
place Memory = 0

-- at the place of the fault stands what it tells
abbrev pub IsFaultAt : List ℕ → LexFault → Type 0
IsFaultAt text (BadByte k) = IsNothing text k × (slice_index text k ≢ 34)
IsFaultAt text (OpenString k) = IsNothing text k × (slice_index text k ≡ 34)
IsFaultAt text (OpenComment k) = (opens_comment text k ≡ true) × ((n : ℕ) → Spells text k Separator n → ⊥)
IsFaultAt text (NameTooLong k) = (n : ℕ) × IsPiece text k (Item Ident) n × (opens_comment text k ≡ false) × (k + longest_name < n)
IsFaultAt text (LiteralTooWide k) =
    (n : ℕ) × (kind : TokenKind) × ((kind ≡ Decimal) ⊎ (kind ≡ Based)) × IsPiece text k (Item kind) n × (opens_comment text k ≡ false) × (literal_of (slice_range text k n) ≡ None)
IsFaultAt text Memory = ⊥

-- the text is covered up to the fault
pub record IsLexFault (text : List ℕ) (f : LexFault) : Type 0 where
  pub before : (c : ℕ) × (ts : List Token) × Covers text c 0 ts (place f)
  pub inside : place f < length text
  pub here : IsFaultAt text f

-- the tokens ascend from i on, and each has a byte at least; the last ends at n or before it
abbrev pub Ascend : ℕ → List Token → ℕ → Type 0
Ascend i [] n = i ≤ n
Ascend i (t ∷ ts) n = (i ≤ t.«at») × (0 < t.len) × Ascend (t.«at» + t.len) ts n

-- each of the names is within its limit, and each of the literals has a meaning
abbrev pub AllWithin : List ℕ → List Token → Type 0
AllWithin text [] = Unit {0}
AllWithin text (t ∷ ts) = IsWithin text t.«at» t.kind (t.«at» + t.len) × AllWithin text ts

-- each token keeps what it spells
abbrev pub AllSpelled : List ℕ → List Token → Type 0
AllSpelled text [] = Unit {0}
AllSpelled text (t ∷ ts) = IsSpelled text t.«at» t.kind (t.«at» + t.len) t.spelled × AllSpelled text ts
