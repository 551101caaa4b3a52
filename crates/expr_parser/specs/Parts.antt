-- Parts of the grammar's rules that have a reader of their own, over a text and its tokens.
use Rattle.std.specs.Prelude.{ℕ, List, Option}
use Rattle.cov_tree.specs.declared.expr.Expr.{Expr}
use Rattle.cov_lexer.specs.declared.kind.Kind.{Kind}
use Rattle.cov_lexer.specs.declared.kind.Kind.TheVariants.{Colon}
use Rattle.cov_grammar.specs.declared.marked.Marked.{Marked}
use Rattle.cov_grammar.specs.declared.place.Room.{Room}
use Rattle.cov_grammar.specs.declared.place.Standing.{Standing}
use Rattle.cov_grammar.specs.declared.place.Standing.TheVariants.{Plain}
use Rattle.cov_grammar.specs.Rule.{Rule, word, ◌▸◌, maybe}
use Rattle.cov_grammar.specs.Expressions.{Inner, expr, part_expr, list_in, inner_at, index_in, primary_in, unary_in, binary_in}

module _ (text : List ℕ) (ts : List Marked) where
  -- what stands one level deeper
  abbrev pub inner : Standing → Room → Inner
  inner s r = inner_at text ts r.operators s r.levels

  abbrev pub binary_at : Standing → ℕ → Room → Rule Expr
  binary_at s level = λ r. binary_in text ts r.operators s (inner s r) level

  abbrev pub unary_at : Standing → Room → Rule Expr
  unary_at s = λ r. unary_in text ts s (inner s r)

  abbrev pub primary_at : Standing → Room → Rule Expr
  primary_at s = λ r. primary_in text ts s (inner s r)

  abbrev pub maybe_index : Standing → Room → Rule (Option (Expr × Option Expr))
  maybe_index s = λ r. maybe (index_in text ts s (inner s r))

  -- [ ":" expr ], inside an index
  abbrev pub low_end : Room → Rule (Option Expr)
  low_end = λ r. maybe (word ts Colon ▸ part_expr text ts Plain r)

  -- expr { "," expr }, inside braces, and outside of expressions
  abbrev pub parts : Room → Rule (List Expr)
  parts = λ r. list_in text ts (part_expr text ts Plain r)

  -- an expression behind a token of this kind, or nothing
  abbrev pub expr_behind : Kind → Room → Rule (Option Expr)
  expr_behind kind = λ r. maybe (word ts kind ▸ expr text ts r)
