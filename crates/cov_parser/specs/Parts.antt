-- Parts of the grammar's rules that have a reader of their own, over a text and its tokens.
use Rattle.std.specs.Prelude.{ℕ, List, [], ◌∷◌, Option, codes}
use Rattle.cov_tree.specs.declared.groups.Formal.{Formal}
use Rattle.cov_lexer.specs.declared.kind.Kind.TheVariants.{Ident, InputWord, RefWord, OtherWord}
use Rattle.cov_grammar.specs.declared.marked.Marked.{Marked}
use Rattle.cov_grammar.specs.declared.place.Room.{Room}
use Rattle.cov_grammar.specs.Rule.{Rule, one, word, same_word, ◌▸◌, maybe}
use Rattle.cov_grammar.specs.Designs.{argument_parens}

module _ (text : List ℕ) (ts : List Marked) where
  abbrev pub direction : Rule (Option Marked)
  direction = maybe (one ts (InputWord ∷ RefWord ∷ []))

  abbrev pub maybe_input : Rule (Option Marked)
  maybe_input = maybe (word ts InputWord)

  -- what stands behind "with"
  abbrev pub sample_function : Room → Rule (List Formal)
  sample_function = λ r. same_word text ts OtherWord (codes "function") ▸ same_word text ts Ident (codes "sample") ▸ argument_parens text ts r
