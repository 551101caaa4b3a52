-- Parts of the grammar's rules that have a reader of their own, over a text and its tokens.
use Rattle.std.specs.Prelude.{ℕ, List}
use Rattle.cov_lexer.specs.declared.kind.Kind.{Kind}
use Rattle.cov_grammar.specs.declared.marked.Marked.{Marked}
use Rattle.cov_grammar.specs.declared.place.Room.{Room}
use Rattle.cov_grammar.specs.Rule.{Rule, counted}

module _ (text : List ℕ) (ts : List Marked) where
  -- operators of these kinds
  abbrev pub operators : List Kind → Room → Rule Marked
  operators kinds = λ r. counted ts r.operators kinds
