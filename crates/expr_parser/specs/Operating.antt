-- The kinds that may be operators of an expression.
use Rattle.std.specs.Prelude.{◌≡◌, ℕ, List, [], ◌∷◌, Bool, true, ◌&&◌, nat_le, slice_get, Option, Some, None}
use Rattle.cov_lexer.specs.declared.kind.Kind.{Kind}
use Rattle.cov_lexer.specs.declared.kind.Kind.TheVariants.{PlusSign, Minus, Star, Slash, Percent, Ampersand, AndAnd, Bar, OrOr, Caret, Less, LessEqual, Greater, GreaterEqual, EqualEqual, NotEqual, ShiftLeft, ShiftRight, SignedLeft, SignedRight}
use Rattle.cov_grammar.specs.declared.marked.Marked.{Marked}
use Rattle.cov_lexer.specs.Kinds.{code}

-- they stand side by side
abbrev pub operates : Kind → Bool
operates k = nat_le (code PlusSign) (code k) && nat_le (code k) (code SignedRight)

abbrev pub all_operate : List Kind → Bool
all_operate [] = true
all_operate (k ∷ ks) = operates k && all_operate ks

abbrev pub AllOperate : List Kind → Type 0
AllOperate ks = all_operate ks ≡ true

-- the token at i has this kind
pub record KindAt (ts : List Marked) (i : ℕ) (k : Kind) : Type 0 where
  pub token : Marked
  pub stands : slice_get ts i ≡ Some token
  pub is : token.kind ≡ k

-- the level of an operator between two operands
abbrev pub level_of : Kind → Option ℕ
level_of Star = Some 0
level_of Slash = Some 0
level_of Percent = Some 0
level_of PlusSign = Some 1
level_of Minus = Some 1
level_of ShiftLeft = Some 2
level_of ShiftRight = Some 2
level_of SignedLeft = Some 2
level_of SignedRight = Some 2
level_of Less = Some 3
level_of LessEqual = Some 3
level_of Greater = Some 3
level_of GreaterEqual = Some 3
level_of EqualEqual = Some 4
level_of NotEqual = Some 4
level_of Ampersand = Some 5
level_of Caret = Some 6
level_of Bar = Some 7
level_of AndAnd = Some 8
level_of OrOr = Some 9
level_of _ = None
