-- What the lexer's own functions find.
use Rattle.std.specs.Prelude.{◌≡◌, ℕ, ◌+◌, ◌<◌, ◌≤◌, List, Bool, true, false, codes, ◌⊎◌, length, slice_index, Option, None, Some, Result, Ok, Err}
use Rattle.std.specs.Borrow.{Bor}
use Rattle.cov_lexer.specs.declared.bytes.Base.{Base}
use Rattle.cov_lexer.specs.declared.kind.Kind.{Kind}
use Rattle.cov_lexer.specs.declared.pieces.Found.{Found}
use Rattle.cov_lexer.specs.declared.pieces.Sort.{Sort}
use Rattle.cov_lexer.specs.declared.token.TokenKind.{TokenKind}
use Rattle.cov_lexer.specs.declared.token.TokenKind.TheVariants.{Operator, NotSupported}
use Rattle.cov_lexer.specs.declared.token.LexFault.{LexFault}
use Rattle.cov_lexer.specs.Spellings.{Spelling, operators}
use Rattle.cov_lexer.specs.Operators.{sort_of, stands, IsOneAt}
use Rattle.cov_lexer.specs.Forms.{AllPass, Part, HasForm, Piece, Separator, Item, Spells, IsPiece}
use Rattle.cov_lexer.specs.Lexes.{IsToken, IsSpelled, IsFaultAt, place, opens_comment}

-- the bytes from i up to j pass the test, and the one at j doesn't
pub record Runs (p : ℕ → Bool) (text : List ℕ) (i : ℕ) (j : ℕ) : Type 0 where
  pub from : i ≤ j
  pub inside : j ≤ length text
  pub all : AllPass p text i j
  pub stops : j < length text → p (slice_index text j) ≡ false

-- an entry of the code's table
abbrev pub seen : Bor (List ℕ) × Kind → Spelling
seen e = record { text = e.0.now; kind = e.1 }

pub record IsLongestOperator (text : List ℕ) (i : ℕ) (k : TokenKind) (j : ℕ) : Type 0 where
  pub spells : IsOneAt text i k operators j
  pub longest : (k' : TokenKind) (n : ℕ) → IsOneAt text i k' operators n → (n < j) ⊎ ((n ≡ j) × (k' ≡ k))
  pub more : i < j
  pub inside : j ≤ length text

-- the longest operator at i, and its kind
pub record IsOperator (text : List ℕ) (i : ℕ) (kind : Kind) (j : ℕ) : Type 0 where
  pub longest : IsLongestOperator text i (sort_of kind) j
  pub spelled : IsSpelled text i (sort_of kind) j kind

abbrev pub OperatorAt : List ℕ → ℕ → Option (Kind × ℕ) → Type 0
OperatorAt text i None = (k : TokenKind) (n : ℕ) → IsOneAt text i k operators n → ⊥
OperatorAt text i (Some x) = IsOperator text i x.0 x.1

-- what fits a form of one of the bases, and is the longest that does
pub record IsLongestOf (form : Base → List Part) (text : List ℕ) (i : ℕ) (j : ℕ) : Type 0 where
  pub base : Base
  pub fits : HasForm text (form base) i j
  pub longest : (b : Base) (n : ℕ) → HasForm text (form b) i n → n ≤ j
  pub more : i + 1 < j
  pub inside : j ≤ length text

abbrev pub EndsOf : (Base → List Part) → List ℕ → ℕ → Option ℕ → Type 0
EndsOf form text i None = (b : Base) (n : ℕ) → HasForm text (form b) i n → ⊥
EndsOf form text i (Some j) = IsLongestOf form text i j

-- the first `*/` at i or behind it
pub record IsClose (text : List ℕ) (i : ℕ) (close : ℕ) : Type 0 where
  pub behind : i ≤ close
  pub closes : stands text close (codes "*/") ≡ true
  pub first : (q : ℕ) → i ≤ q → q < close → stands text q (codes "*/") ≡ false
  pub inside : close + 2 ≤ length text

abbrev pub ClosesAt : List ℕ → ℕ → Option ℕ → Type 0
ClosesAt text i None = (q : ℕ) → i ≤ q → stands text q (codes "*/") ≡ false
ClosesAt text i (Some close) = IsClose text i close

abbrev pub MayStand : List ℕ → ℕ → Option Sort → ℕ → Type 0
MayStand text i None j = IsPiece text i Separator j
MayStand text i (Some s) j = IsToken text i s.kind j × IsSpelled text i s.kind j s.spelled

pub record Gives (text : List ℕ) (i : ℕ) (sort : Option Sort) (j : ℕ) : Type 0 where
  pub stands : MayStand text i sort j
  pub more : i < j
  pub inside : j ≤ length text

-- the piece that begins at i, or the fault there
abbrev pub Finds : List ℕ → ℕ → Result Found LexFault → Type 0
Finds text i (Ok x) = Gives text i x.sort x.«end»
Finds text i (Err f) = IsFaultAt text f × (place f ≡ i)

-- no piece but an operator begins at i, and no comment that has no end
pub record OnlyOperators (text : List ℕ) (i : ℕ) : Type 0 where
  pub others : (p : Piece) (n : ℕ) → Spells text i p n → (p ≡ Item Operator) ⊎ (p ≡ Item NotSupported)
  pub no_comment : opens_comment text i ≡ false
