-- Bodies of options and declarations.
use Rattle.std.specs.Prelude.{◌≡◌, ℕ, List, [], ◌∷◌, ◌++◌, true, false}
use Rattle.cov_tree.specs.declared.bins.OptDecl.{OptDecl}
use Rattle.cov_lexer.specs.declared.kind.Kind.TheVariants.{CloseBrace}
use Rattle.cov_grammar.specs.declared.marked.Marked.{Marked}
use Rattle.cov_grammar.specs.declared.place.Room.{Room}
use Rattle.cov_grammar.specs.Rule.{Rule, either, map_to}
use Rattle.cov_grammar.specs.Bins.{optset}
use Rattle.cov_grammar.specs.Groups.{Entry, Setting, Counting, body}
use Rattle.cov_grammar.proofs.Sets.{disjoint}
use Rattle.cov_grammar.proofs.Lawful.{Lawful}
use Rattle.cov_grammar.proofs.GroupLaws.{option_words}

-- ";" | "{" { optset | declaration } "}"
abbrev pub body_of : {A : Type 0} → (List ℕ → List Marked → Room → Rule A) → List ℕ → List Marked → Room → Rule (List OptDecl × List A)
body_of declaration text ts = λ r. body text ts (declaration text ts r) r

-- optset | declaration
abbrev pub entry_of : {A : Type 0} → (List ℕ → List Marked → Room → Rule A) → List ℕ → List Marked → Room → Rule (Entry A)
entry_of declaration text ts = λ r. either (map_to Setting (optset text ts r)) (map_to Counting (declaration text ts r))

-- declarations and options are told apart by their first words, and stand side by side up to a brace
pub record BesideOptions {A : Type 0} (text : List ℕ) (ts : List Marked) (declaration : Room → Rule A) : Type 0 where
  pub lawful : Lawful ts declaration
  pub full : lawful.null ≡ false
  pub other : disjoint option_words lawful.first ≡ true
  pub entries : Lawful ts (λ r. either (map_to Setting (optset text ts r)) (map_to Counting (declaration r)))
  pub filled : entries.null ≡ false
  pub again : disjoint entries.cont entries.first ≡ true
  pub shut : disjoint (entries.cont ++ entries.first) (CloseBrace ∷ []) ≡ true
  pub closed : disjoint entries.first (CloseBrace ∷ []) ≡ true
