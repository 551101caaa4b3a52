-- Parts of the grammar's rules that have a reader of their own, over a text and its tokens.
use Rattle.std.specs.Prelude.{ℕ, List, [], ◌∷◌, Option, not}
use Rattle.cov_tree.specs.declared.expr.Expr.{Expr}
use Rattle.cov_tree.specs.declared.bins.Step.{Step}
use Rattle.cov_tree.specs.declared.bins.Times.{Times}
use Rattle.cov_tree.specs.declared.bins.Size.{Size}
use Rattle.cov_tree.specs.declared.bins.Right.{Right}
use Rattle.cov_tree.specs.declared.bins.Right.TheVariants.{Trans}
use Rattle.cov_lexer.specs.declared.kind.Kind.TheVariants.{OpenParen, CloseParen, FatArrow, WildcardWord, SequenceWord, Ident, Comma, Semi, OrWord, PosedgeWord, NegedgeWord, EdgeWord}
use Rattle.cov_grammar.specs.declared.marked.Marked.{Marked}
use Rattle.cov_grammar.specs.declared.place.Room.{Room}
use Rattle.cov_grammar.specs.Rule.{Rule, word, either, map_to, fold, ◌▸◌, ◌◂◌, allow, maybe, one, many}
use Rattle.cov_grammar.specs.Expressions.{snoc, expr, list_in}
use Rattle.cov_grammar.specs.Bins.{ident, guard, values, step, seqs, repetition, is_scalar, is_fixed}
use Rattle.cov_grammar.specs.Groups.{label}
use Rattle.cov_tree.specs.declared.groups.EdgeText.{EdgeText}
use Rattle.cov_tree.specs.declared.declarations.TypeText.{TypeText}
use Rattle.cov_grammar.specs.Designs.{vector, vector_span, arguments, edge}

module _ (text : List ℕ) (ts : List Marked) where
  abbrev pub maybe_guard : Room → Rule (Option Expr)
  maybe_guard = λ r. maybe (guard text ts r)

  -- step { "=>" step }
  abbrev pub steps : Room → Rule (List Step)
  steps = λ r. fold snoc (map_to (λ x. x ∷ []) (step text ts r)) (word ts FatArrow ▸ step text ts r)

  abbrev pub maybe_repetition : Room → Rule (Option Times)
  maybe_repetition = λ r. maybe (repetition text ts r)

  abbrev pub maybe_wildcard : Rule (Option Marked)
  maybe_wildcard = maybe (word ts WildcardWord)

  -- values or sequences, by the size of the bins
  abbrev pub listed : Size → Room → Rule Right
  listed size = λ r. either (values text ts r) (allow (not (is_fixed size)) (map_to Trans (seqs text ts r)))

  -- what stands behind "default"
  abbrev pub default_end : Size → Rule (Option Marked)
  default_end size = maybe (allow (is_scalar size) (word ts SequenceWord))

  abbrev pub exprs : Room → Rule (List Expr)
  exprs = λ r. list_in text ts (expr text ts r)

  abbrev pub maybe_span : Room → Rule (Option (Expr × Expr))
  maybe_span = λ r. maybe (vector_span text ts r)

  abbrev pub maybe_vector : Room → Rule (Option TypeText)
  maybe_vector = λ r. maybe (vector text ts r)

  abbrev pub maybe_label : Rule (Option (List ℕ))
  maybe_label = maybe (label text ts)

  abbrev pub edge_word : Rule (Option Marked)
  edge_word = maybe (one ts (PosedgeWord ∷ NegedgeWord ∷ EdgeWord ∷ []))

  -- edge { ( "or" | "," ) edge }
  abbrev pub edges : Room → Rule (List EdgeText)
  edges = λ r. fold snoc (map_to (λ x. x ∷ []) (edge text ts r)) (one ts (OrWord ∷ Comma ∷ []) ▸ edge text ts r)

  -- what stands behind "@"
  abbrev pub edge_parens : Room → Rule (List EdgeText)
  edge_parens = λ r. word ts OpenParen ▸ edges r ◂ word ts CloseParen

  -- ident { "," ident } ";"
  abbrev pub name_list : Rule (List Marked)
  name_list = fold snoc (map_to (λ t. t ∷ []) (word ts Ident)) (word ts Comma ▸ word ts Ident) ◂ word ts Semi

  -- { "," ident }, put to the first
  abbrev pub more_names : Marked → Rule (List Marked)
  more_names first = many snoc (word ts Comma ▸ word ts Ident) (first ∷ [])

  abbrev pub maybe_arguments : Room → Rule (Option (Option (List Expr)))
  maybe_arguments = λ r. maybe (arguments text ts r)
