-- What a list of tokens is as a whole: a design text of one tree, or a text with a fault at one place.
use Rattle.std.specs.Prelude.{◌≡◌, ℕ, ◌+◌, ◌<◌, ◌≤◌, List, [], ◌∷◌, length, false, Option, Some, None, Bool, slice_get}
use Rattle.cov_tree.specs.declared.declarations.Decl.{Decl}
use Rattle.cov_lexer.specs.declared.kind.Kind.{Kind}
use Rattle.cov_lexer.specs.declared.kind.Kind.TheVariants.{System, NotSupported, OtherWord, WithWord}
use Rattle.cov_grammar.specs.declared.marked.Marked.{Marked}
use Rattle.cov_grammar.specs.declared.place.Place.{Place}
use Rattle.cov_grammar.specs.declared.place.Room.{Room}
use Rattle.cov_grammar.specs.declared.place.Stop.{Stop}
use Rattle.cov_grammar.specs.declared.place.Stop.TheVariants.{Memory, Syntax, TooDeep}
use Rattle.cov_lexer.specs.Kinds.{has}
use Rattle.cov_grammar.specs.Designs.{design}

abbrev pub start : Place
start = record { at = 0; used = 0 }

-- with this room the tokens derive these declarations
abbrev pub DerivesWithin : Room → List ℕ → List Marked → List Decl → Type 0
DerivesWithin r text ts decls = (q : Place) × (design text ts r).derives start decls q × (q.at ≡ length ts)

-- with some room they do
abbrev pub Derives : List ℕ → List Marked → List Decl → Type 0
Derives text ts decls = (r : Room) × DerivesWithin r text ts decls

-- the first n tokens begin a design, with this room
abbrev pub IsViableWithin : Room → List ℕ → List Marked → ℕ → Type 0
IsViableWithin r text ts n = (design text ts r).begins start n

-- the first n tokens begin a design, with some room
abbrev pub IsViable : List ℕ → List Marked → ℕ → Type 0
IsViable text ts n = (r : Room) × IsViableWithin r text ts n

-- token k is the last of the shortest list of first tokens that isn't viable; or all of them are viable, k is their number, and there is no tree
pub record IsSyntaxFault (r : Room) (text : List ℕ) (ts : List Marked) (k : ℕ) : Type 0 where
  pub before : (n : ℕ) → n ≤ k → IsViableWithin r text ts n
  pub after : (n : ℕ) → k < n → IsViable text ts n → ⊥
  pub no_tree : (decls : List Decl) → Derives text ts decls → ⊥

-- token k is the first that opens a level too many or is an operator too many: with it the tokens are viable only where there is more room
pub record IsTooDeepAt (r : Room) (text : List ℕ) (ts : List Marked) (k : ℕ) : Type 0 where
  pub before : (n : ℕ) → n ≤ k → IsViableWithin r text ts n
  pub here : IsViable text ts (k + 1)
  pub too_deep : (n : ℕ) → k < n → IsViableWithin r text ts n → ⊥

-- what a stop says of the tokens; want of memory has no cause in them
abbrev pub IsCause : Room → List ℕ → List Marked → Stop → Type 0
IsCause r text ts Memory = Unit {0}
IsCause r text ts (Syntax k) = IsSyntaxFault r text ts k
IsCause r text ts (TooDeep k) = IsTooDeepAt r text ts k

-- the kinds of tokens that are a fault of their own where none can stand
abbrev pub foreign_kinds : List Kind
foreign_kinds = System ∷ NotSupported ∷ OtherWord ∷ WithWord ∷ []

abbrev pub is_foreign_token : Option Marked → Bool
is_foreign_token None = false
is_foreign_token (Some t) = has t.kind foreign_kinds

-- whether token k isn't supported
abbrev pub is_foreign : List Marked → ℕ → Bool
is_foreign ts k = is_foreign_token (slice_get ts k)

-- 64 levels, and 1,024 operators
abbrev pub limits : Room
limits = record { levels = 64; operators = 1024 }
