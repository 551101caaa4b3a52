use Rattle.std.proofs.Common.{◌++◌, ◌∷◌, [], List, ℕ, ap, ◌∙◌, rules}
use Rattle.value_index.specs.declared.rows.Place.{Place}
use Rattle.value_index.specs.Rows.{rows_of}
use Rattle.value_index.proofs.Flat.{rows_push}
use Rattle.value_index.proofs.rows.Rows.push.Goals as goal

pub returns : goal.returns
returns c = record {
  after =
      let flat : List ℕ = c.self.inside.flat.items in
      let new : List ℕ = c.extend_from_slice.new.self.items in
      ap (λ (ps : List Place). rows_of new ps) c.in_ok-push.ensures.items
      ∙ rows_push flat c.args.row.now new c.self.inside.places.items _ c.self.invariant c.in_ok-extend_from_slice.ensures.items (search rules) (search rules)
      ∙ ap (λ (xs : List (List ℕ)). xs ++ c.args.row.now ∷ []) c.self.view_is;
}
