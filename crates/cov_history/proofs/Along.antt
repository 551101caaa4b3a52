-- Words of the first entries of a history, an entry at a time.
use Rattle.std.proofs.Common.{◌≡◌, ◌∙◌, ℕ, ◌+◌, ◌<◌, List, [], ◌∷◌, ◌++◌, length, take, get_or, sym, ap}
use Rattle.std.proofs.lemmas.List.{take_more}
use Rattle.design_data.specs.declared.design.Design.{Design}
use Rattle.cov_history.specs.declared.entry.Entry.{Entry}
use Rattle.cov_history.specs.History.{design_of, design_after, out_of, out_after, contents}
use Rattle.cov_history.specs.Steps.{admitted}
use Rattle.cov_history.proofs.Snoc.{design_snoc, out_snoc, contents_snoc}

module _ (h : List Entry) (i : ℕ) (e : Entry) (lt : i < length h) (at : e ≡ get_or h i e) where
  pub one_entry : take (i + 1) h ≡ take i h ++ e ∷ []
  one_entry = take_more h i e lt ∙ ap (λ (x : Entry). take i h ++ x ∷ []) (sym at)

  pub design_more : (d old new : Design) → old ≡ design_of d (take i h) → new ≡ design_after old e.event → new ≡ design_of d (take (i + 1) h)
  design_more d old new was is = is ∙ ap (λ (x : Design). design_after x e.event) was ∙ sym (design_snoc d (take i h) e) ∙ ap (design_of d) (sym one_entry)

  pub out_more : (old new : List (List ℕ)) → old ≡ out_of (take i h) → new ≡ out_after old e.event → new ≡ out_of (take (i + 1) h)
  out_more old new was is = is ∙ ap (λ (x : List (List ℕ)). out_after x e.event) was ∙ sym (out_snoc (take i h) e) ∙ ap out_of (sym one_entry)

  pub contents_more : contents (take (i + 1) h) ≡ contents (take i h) ++ admitted e.event
  contents_more = ap contents one_entry ∙ contents_snoc (take i h) e
