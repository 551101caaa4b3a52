-- Range lists (IEEE 1800-2017, 19.5.1, 19.5.4 and 19.5.7): their elements, and the numbers that these stand for.
use Rattle.std.specs.Prelude.{ℕ, nat_eq, nat_le, ℤ, List, [], ◌∷◌, ◌++◌, length, filter, Bool, Option, Some, None, Result, Ok, Err, if◌then◌else◌}
use Rattle.cov_ground.specs.Limits.{most_ranges}
use Rattle.cov_base.specs.Sets.{span, written, set_of, is_in}
use Rattle.cov_tree.specs.declared.literal.Literal.{Literal}
use Rattle.cov_tree.specs.declared.expr.Expr.{Expr}
use Rattle.cov_tree.specs.declared.expr.Expr.TheViews.{out-Expr}
use Rattle.cov_tree.specs.declared.expr.Expr.TheOpen as expr
use Rattle.cov_tree.specs.declared.expr.Expr.TheOpen.{Expr-F}
use Rattle.cov_tree.specs.declared.bins.End.{End}
use Rattle.cov_tree.specs.declared.bins.End.TheVariants as ends
use Rattle.cov_tree.specs.declared.bins.Elem.{Elem}
use Rattle.cov_tree.specs.declared.bins.Elem.TheVariants as elems
use Rattle.const_eval.specs.Scopes.{Levels}
pub use Rattle.const_eval.specs.Binding.{has_width}
use Rattle.wildcard_bins.specs.declared.pattern.Pattern.{Pattern}
use Rattle.wildcard_bins.specs.Patterns.{agreeing}
use Rattle.elab_base.specs.declared.fault.ElabKind.{ElabKind}
use Rattle.elab_base.specs.declared.fault.ElabKind.TheVariants as kind
use Rattle.elab_base.specs.Gives.{Refusal, ◌>>=◌, needs, each}
use Rattle.elab_base.specs.Steps.{number_in}
use Rattle.elab_values.specs.declared.domain.Domain.{Domain}
use Rattle.elab_values.specs.declared.elements.Listed.{Listed}
use Rattle.elab_values.specs.declared.elements.Listed.TheVariants.{Range, Agreeing}

-- ---- elements

-- the pattern of a literal with digits x, z or ?
abbrev pub pattern_of : Literal → Option Pattern
pattern_of lit = if has_width lit.width then (if nat_eq lit.free 0 then None else Some (record { width = lit.width; signed = lit.signed; bits = lit.bits; free = lit.free })) else None

abbrev pub pattern_layer : {A : Type 0} → Expr-F A → Option Pattern
pattern_layer (expr.Num lit at) = pattern_of lit
pattern_layer (expr.Name name at) = None
pattern_layer (expr.Bit name index at) = None
pattern_layer (expr.Part name high low at) = None
pattern_layer (expr.Concat parts at) = None
pattern_layer (expr.Unary op arg at) = None
pattern_layer (expr.Binary op left right at) = None
pattern_layer (expr.Cond test yes' no' at) = None

-- the pattern that an element of a wildcard bin stands for, where it is such a literal by itself
abbrev pub element_pattern : (wildcard : Bool) → Expr → Option Pattern
element_pattern wildcard e = if wildcard then pattern_layer (out-Expr e) else None

-- what such a literal is elsewhere among the elements of a wildcard bin
abbrev pub in_wildcard : ElabKind → ElabKind
in_wildcard kind.UnknownLiteral = kind.BadWildcard
in_wildcard kind = kind

abbrev pub wildcard_kind : (wildcard : Bool) → ElabKind → ElabKind
wildcard_kind wildcard kind = if wildcard then in_wildcard kind else kind

abbrev pub in_elements : {X : Type 0} → (wildcard : Bool) → Result X Refusal → Result X Refusal
in_elements wildcard (Ok x) = Ok x
in_elements wildcard (Err fault) = Err (wildcard_kind wildcard fault.0, fault.1)

abbrev pub element_number : Levels → (wildcard : Bool) → Expr → Result ℤ Refusal
element_number levels wildcard e = in_elements wildcard (number_in levels e)

-- an end of a range; `$` is that of the point
unfoldable pub end_of : Levels → (wildcard : Bool) → ℤ → End → Result ℤ Refusal
end_of levels wildcard dollar (ends.Value e) = element_number levels wildcard e
end_of levels wildcard dollar (ends.Dollar at) = Ok dollar

abbrev pub pattern_or : Levels → (wildcard : Bool) → Expr → Option Pattern → Result Listed Refusal
pattern_or levels wildcard e (Some pattern) = Ok (Agreeing pattern)
pattern_or levels wildcard e None = do
  v ← element_number levels wildcard e
  Ok (Range v v)

unfoldable pub listed_one : Levels → (wildcard : Bool) → Expr → Result Listed Refusal
listed_one levels wildcard e = pattern_or levels wildcard e (element_pattern wildcard e)

unfoldable pub element : Levels → Domain → (wildcard : Bool) → Elem → Result Listed Refusal
element levels domain wildcard (elems.One e) = listed_one levels wildcard e
element levels domain wildcard (elems.Span low high at) = do
  l ← end_of levels wildcard domain.low low
  h ← end_of levels wildcard domain.high high
  Ok (Range l h)

unfoldable pub with_element : Levels → Domain → (wildcard : Bool) → Elem → List Listed → Result (List Listed) Refusal
with_element levels domain wildcard elem elements = do
  next ← element levels domain wildcard elem
  Ok (elements ++ next ∷ [])

unfoldable pub listed_in : Levels → Domain → (wildcard : Bool) → List Elem → Result (List Listed) Refusal
listed_in levels domain wildcard es = each (with_element levels domain wildcard) es []

-- ---- their numbers

-- The numbers that agree with a literal, ascending. Their set, before those that aren't the point's are left out, has
-- 65,536 intervals at most.
unfoldable pub pattern_numbers : Pattern → ℕ → Result (List ℤ) Refusal
pattern_numbers pattern at = do
  _ ← needs (nat_le (length (set_of (agreeing pattern))) most_ranges) kind.TooManyRanges at
  Ok (written (set_of (agreeing pattern)))

-- the numbers of an element, in order
unfoldable pub element_numbers : Listed → ℕ → Result (List ℤ) Refusal
element_numbers (Range low high) at = Ok (span (low, high))
element_numbers (Agreeing pattern) at = pattern_numbers pattern at

unfoldable pub with_numbers : ℕ → Listed → List ℤ → Result (List ℤ) Refusal
with_numbers at listed numbers = do
  next ← element_numbers listed at
  Ok (numbers ++ next)

unfoldable pub all_numbers : List Listed → ℕ → Result (List ℤ) Refusal
all_numbers elements at = each (with_numbers at) elements []

-- the listed numbers in order, duplicates kept; those that aren't the point's don't take part
unfoldable pub numbers_listed : Domain → List Listed → ℕ → Result (List ℤ) Refusal
numbers_listed domain elements at = do
  numbers ← all_numbers elements at
  Ok (filter (is_in (written domain.numbers)) numbers)

-- both at once, where nothing is tested in between
unfoldable pub numbers_of : Levels → Domain → (wildcard : Bool) → List Elem → ℕ → Result (List ℤ) Refusal
numbers_of levels domain wildcard es at = do
  elements ← listed_in levels domain wildcard es
  numbers_listed domain elements at
