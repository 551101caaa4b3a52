-- Lists with separators between their items.
use Rattle.std.specs.Prelude.{◌≡◌, ℕ, List, [], Result, Ok, Err, true}
use Rattle.cov_lexer.specs.declared.kind.Kind.{Kind}
use Rattle.cov_grammar.specs.declared.marked.Marked.{Marked}
use Rattle.cov_grammar.specs.declared.place.Place.{Place}
use Rattle.cov_grammar.specs.declared.place.Room.{Room}
use Rattle.cov_grammar.specs.declared.place.Stop.{Stop}
use Rattle.cov_grammar.specs.declared.place.Stop.TheVariants.{Memory}
use Rattle.cov_grammar.specs.Rule.{Rule, one, many, map_to, fold, ◌▸◌}
use Rattle.cov_grammar.specs.Parses.{Reads, Fails}
use Rattle.cov_grammar.specs.Expressions.{snoc}
use Rattle.cov_grammar.proofs.Sets.{disjoint}
use Rattle.cov_grammar.proofs.Lawful.{Lawful}

-- item { separator item }, each put to those before it
abbrev pub list_of : {T W : Type 0} → (List ℕ → List Marked → Room → Rule W) → (List T → W → List T) → List Kind → List ℕ → List Marked → Room → Rule (List T)
list_of item put separators text ts = λ r. fold put (map_to (put []) (item text ts r)) (one ts separators ▸ item text ts r)

-- { separator item }, put to those before
abbrev pub more_of : {T W : Type 0} → (List ℕ → List Marked → Room → Rule W) → (List T → W → List T) → List Kind → List T → List ℕ → List Marked → Room → Rule (List T)
more_of item put separators before text ts = λ r. many put (one ts separators ▸ item text ts r) before

-- what a reader of an item answered, that put it to those before
abbrev pub Puts : {T W : Type 0} → (Room → Rule W) → (List T → W → List T) → Room → Place → List T → List T → Result Place Stop → Type 0
Puts F put r p before after (Ok q) = (w : _) × Reads F r p w q × (after ≡ put before w)
Puts F put r p before after (Err s) = Fails F r p s

-- what a reader answered is put to the end of a list, where there is memory
abbrev pub Added : {T : Type 0} → Result (T × Place) Stop → List T → List T → Result Place Stop → Type 0
Added (Ok x) before after (Ok q) = (q ≡ x.1) × (after ≡ snoc before x.0)
Added (Ok x) before after (Err s) = s ≡ Memory
Added (Err e) before after (Ok q) = ⊥
Added (Err e) before after (Err s) = s ≡ e

-- no item goes on with a separator
pub record Separable {W : Type 0} (ts : List Marked) (item : Room → Rule W) (separators : List Kind) : Type 0 where
  pub lawful : Lawful ts item
  pub apart : disjoint lawful.cont separators ≡ true
