-- The grammar of expressions (IEEE 1800-2017, clause 11, A.8). A nested one has one level less.
use Rattle.std.specs.Prelude.{ℕ, zero, suc, ◌+◌, List, [], ◌∷◌, ◌++◌, Option, Some, None, Bool, true, false, slice_range}
use Rattle.cov_tree.specs.declared.literal.Literal.{Literal}
use Rattle.cov_tree.specs.declared.expr.Expr.{Expr}
use Rattle.cov_tree.specs.Exprs.{number, named, bit_select, part_select, concatenation, unary, binary, choice}
use Rattle.cov_lexer.specs.Literals.{literal_of}
use Rattle.cov_lexer.specs.declared.kind.Kind.{Kind}
use Rattle.cov_lexer.specs.declared.kind.Kind.TheVariants.{Ident, Numeral, OpenParen, CloseParen, OpenIndex, OpenSquare, CloseSquare, OpenBrace, CloseBrace, Comma, Colon, Question}
use Rattle.cov_grammar.specs.declared.marked.Marked.{Marked}
use Rattle.cov_grammar.specs.declared.place.Room.{Room}
use Rattle.cov_grammar.specs.declared.place.Standing.{Standing}
use Rattle.cov_grammar.specs.declared.place.Standing.TheVariants.{Plain, StepEnd}
use Rattle.cov_grammar.specs.Operators.{unary_kinds, unary_of, level_kinds, binary_of}
use Rattle.cov_grammar.specs.Rule.{Rule, one, word, counted, afresh, here, never, bind, either, map_to, both, fold, ◌▸◌, ◌◂◌, allow, maybe}

abbrev pub pair : {A B : Type 0} → A → B → A × B
pair a b = (a, b)

abbrev pub snoc : {A : Type 0} → List A → A → List A
snoc xs x = xs ++ x ∷ []

-- the text of a token
abbrev pub spelled : List ℕ → Marked → List ℕ
spelled text t = slice_range text t.at (t.at + t.len)

-- what a literal means; each one that is a token has a meaning
abbrev pub literal_or : Option Literal → Literal
literal_or None = record { width = 0; sized = false; signed = false; bits = 0; free = 0 }
literal_or (Some l) = l

-- the kinds of `[` that open an index
abbrev pub index_kinds : Standing → List Kind
index_kinds Plain = OpenIndex ∷ OpenSquare ∷ []
index_kinds StepEnd = OpenIndex ∷ []

-- what stands one level deeper, where there is room for it: an expression in brackets, and an operand
-- and an expression that end where the outer one ends
pub record Inner : Type 1 where
  pub room : Bool
  pub inside : Rule Expr
  pub operand : Rule Expr
  pub last : Rule Expr

-- the expressions behind `[`: an index, or a high and a low one
abbrev pub selected : List ℕ → Marked → Option (Expr × Option Expr) → Expr
selected text t None = named (spelled text t) t.at
selected text t (Some (high, None)) = bit_select (spelled text t) high t.at
selected text t (Some (high, Some low)) = part_select (spelled text t) high low t.at

abbrev pub before_one : Marked → Expr → Expr
before_one t e = unary (unary_of t.kind) e t.at

abbrev pub joined : Expr → Marked × Expr → Expr
joined left p = binary (binary_of p.0.kind) left p.1 p.0.at

abbrev pub test_or_choice : ℕ → Expr → Option (Expr × Expr) → Expr
test_or_choice at e None = e
test_or_choice at e (Some p) = choice e p.0 p.1 at

module _ (text : List ℕ) (ts : List Marked) where
  -- number
  unfoldable pub number_rule : Rule Expr
  number_rule = map_to (λ t. number (literal_or (literal_of (spelled text t))) t.at) (word ts Numeral)

  -- "[" expr [ ":" expr ] "]"
  unfoldable pub index_in : Standing → Inner → Rule (Expr × Option Expr)
  index_in s inner = allow inner.room (one ts (index_kinds s) ▸ both pair inner.inside (maybe (word ts Colon ▸ inner.inside)) ◂ word ts CloseSquare)

  -- ident | ident "[" expr "]" | ident "[" expr ":" expr "]"
  unfoldable pub named_in : Standing → Inner → Rule Expr
  named_in s inner = both (selected text) (word ts Ident) (maybe (index_in s inner))

  -- "(" expr ")"
  unfoldable pub paren_in : Inner → Rule Expr
  paren_in inner = allow inner.room (word ts OpenParen ▸ inner.inside ◂ word ts CloseParen)

  -- expr { "," expr }
  unfoldable pub list_in : Rule Expr → Rule (List Expr)
  list_in e = fold snoc (map_to (λ x. x ∷ []) e) (word ts Comma ▸ e)

  -- "{" expr { "," expr } "}"
  unfoldable pub concat_in : Inner → Rule Expr
  concat_in inner = allow inner.room (both (λ (t : Marked) parts. concatenation parts t.at) (word ts OpenBrace) (list_in inner.inside ◂ word ts CloseBrace))

  -- primary = number | ident | ident "[" expr "]" | ident "[" expr ":" expr "]" | "(" expr ")" | "{" expr { "," expr } "}"
  unfoldable pub primary_in : Standing → Inner → Rule Expr
  primary_in s inner = either number_rule (either (named_in s inner) (either (paren_in inner) (concat_in inner)))

  -- ( "+" | "-" | "!" | "~" | "&" | "|" | "^" | "~&" | "~|" | "~^" | "^~" ) unary
  unfoldable pub signed_in : Inner → Rule Expr
  signed_in inner = allow inner.room (both before_one (one ts unary_kinds) inner.operand)

  -- an operator before an operand, or a primary
  unfoldable pub unary_in : Standing → Inner → Rule Expr
  unary_in s inner = either (signed_in inner) (primary_in s inner)

  -- operands joined by operators of the levels below this one, from left to right
  unfoldable pub binary_in : (limit : ℕ) → Standing → Inner → ℕ → Rule Expr
  binary_in limit s inner zero = unary_in s inner
  binary_in limit s inner (suc level) = fold joined (binary_in limit s inner level) (both pair (counted ts limit (level_kinds level)) (binary_in limit s inner level))

  -- "?" expr ":" expr
  unfoldable pub branches_in : Inner → Rule (Expr × Expr)
  branches_in inner = allow inner.room (word ts Question ▸ both pair inner.inside (word ts Colon ▸ inner.last))

  -- expr = operands joined by operators, [ "?" expr ":" expr ]
  unfoldable pub expr_in : (limit : ℕ) → Standing → Inner → Rule Expr
  expr_in limit s inner = bind (here ts) (λ at. both (test_or_choice at) (binary_in limit s inner 10) (maybe (branches_in inner)))

  -- with so many levels left
  unfoldable pub inner_at : (limit : ℕ) → Standing → ℕ → Inner
  inner_at limit s zero = record { room = false; inside = never; operand = never; last = never }
  inner_at limit s (suc d) = record {
    room = true;
    inside = expr_in limit Plain (inner_at limit Plain d);
    operand = unary_in s (inner_at limit s d);
    last = expr_in limit s (inner_at limit s d);
  }

  -- an expression, some of whose operators may stand before it
  abbrev pub part_expr : Standing → Room → Rule Expr
  part_expr s r = expr_in r.operators s (inner_at r.operators s r.levels)

  -- an expression that stands in no other
  unfoldable pub whole_expr : Standing → Room → Rule Expr
  whole_expr s r = afresh (part_expr s r)

  abbrev pub expr : Room → Rule Expr
  expr r = whole_expr Plain r
