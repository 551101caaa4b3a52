-- Where operators stand.
use Rattle.std.specs.Prelude.{◌≡◌, ℕ, ◌+◌, List, [], ◌∷◌, Bool, true, nat_eq, cond, drop, length, ◌⊎◌, Option, Some, None}
use Rattle.std.specs.List.{starts_with}
use Rattle.cov_lexer.specs.declared.kind.Kind.{Kind}
use Rattle.cov_lexer.specs.declared.kind.Kind.TheVariants as kinds
use Rattle.cov_lexer.specs.declared.token.TokenKind.{TokenKind}
use Rattle.cov_lexer.specs.declared.token.TokenKind.TheVariants.{Operator, NotSupported}
use Rattle.cov_lexer.specs.Spellings.{Spelling}

-- what an operator of this kind is as a token
abbrev pub sort_of : Kind → TokenKind
sort_of kinds.NotSupported = NotSupported
sort_of _ = Operator

-- these bytes stand at i
unfoldable pub stands : List ℕ → ℕ → List ℕ → Bool
stands text i bytes = starts_with nat_eq (drop i text) bytes

-- one of these operators, of this kind, stands from i up to j
unfoldable pub IsOneAt : List ℕ → ℕ → TokenKind → List Spelling → ℕ → Type 0
IsOneAt text i k [] j = ⊥
IsOneAt text i k (s ∷ ss) j = ((sort_of s.kind ≡ k) × (stands text i s.text ≡ true) × (j ≡ i + length s.text)) ⊎ IsOneAt text i k ss j

-- the first of them that stands at i
abbrev pub first_standing : List ℕ → ℕ → List Spelling → Option Spelling
first_standing text i [] = None
first_standing text i (s ∷ ss) = cond (stands text i s.text) (Some s) (first_standing text i ss)
