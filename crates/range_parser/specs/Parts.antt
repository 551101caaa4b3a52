-- Parts of the grammar's rules that have a reader of their own, over a text and its tokens.
use Rattle.std.specs.Prelude.{ℕ, List, Option}
use Rattle.cov_tree.specs.declared.expr.Expr.{Expr}
use Rattle.cov_tree.specs.declared.bins.Elem.{Elem}
use Rattle.cov_tree.specs.declared.groups.Sel.{Sel}
use Rattle.cov_lexer.specs.declared.kind.Kind.TheVariants.{OpenParen, CloseParen, OpenBrace, CloseBrace, Dot, IntersectWord}
use Rattle.cov_grammar.specs.declared.marked.Marked.{Marked}
use Rattle.cov_grammar.specs.declared.place.Room.{Room}
use Rattle.cov_grammar.specs.declared.place.Standing.TheVariants.{Plain}
use Rattle.cov_grammar.specs.Rule.{Rule, word, ◌▸◌, ◌◂◌, maybe}
use Rattle.cov_grammar.specs.Expressions.{expr}
use Rattle.cov_grammar.specs.Bins.{ident, elems, keep}
use Rattle.cov_grammar.specs.Groups.{sel_inner_at, sand_in, sunary_in}

module _ (text : List ℕ) (ts : List Marked) where
  abbrev pub in_parens : Room → Rule Expr
  in_parens = λ r. word ts OpenParen ▸ expr text ts r ◂ word ts CloseParen

  abbrev pub maybe_keep : Room → Rule (Option Expr)
  maybe_keep = λ r. maybe (keep text ts r)

  abbrev pub conjunction : Room → Rule Sel
  conjunction = λ r. sand_in text ts r (sel_inner_at text ts r.operators r.levels)

  abbrev pub simple : Room → Rule Sel
  simple = λ r. sunary_in text ts r (sel_inner_at text ts r.operators r.levels)

  -- the name of a bin behind that of its point, or nothing
  abbrev pub maybe_bin : Room → Rule (Option (List ℕ))
  maybe_bin = λ r. maybe (word ts Dot ▸ ident text ts)

  abbrev pub maybe_meets : Room → Rule (Option (List Elem))
  maybe_meets = λ r. maybe (word ts IntersectWord ▸ word ts OpenBrace ▸ elems text ts Plain r ◂ word ts CloseBrace)
