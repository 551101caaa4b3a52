use Rattle.std.proofs.Common.{◌∙◌, ap, subst, List, ℕ, false, replicate, length}
use Rattle.store_sums.specs.Runs.{HasRuns}
use Rattle.store_sums.proofs.Running.{none_numbered, numbers_as}
use Rattle.store_sums.proofs.runs.Runs.of.Goals as goal

pub invariant_of-result : goal.invariant_of-result
invariant_of-result c =
    let parents = c.args.parents.items in
    let runs : HasRuns parents (length parents) c.in_ok-begins.begins.items c.in_ok-begins.ends.items = subst (λ (ps : List ℕ). HasRuns ps (length ps) c.in_ok-begins.begins.items c.in_ok-begins.ends.items) c.as_slice.ensures.value c.in_ok-begins.ensures in
    let fresh = none_numbered parents c.in_ok-begins.begins.items c.in_ok-begins.ends.items runs in
    let many = ap (λ (ps : List ℕ). length ps) c.as_slice-many.ensures.value in (
      runs,
      numbers_as fresh (c.in_ok-live.ensures ∙ ap (λ (n : ℕ). replicate n false) many) (c.in_ok-lives.ensures ∙ ap (λ (n : ℕ). replicate n 0) many),
      numbers_as fresh (c.in_ok-covered.ensures ∙ ap (λ (n : ℕ). replicate n false) many) (c.in_ok-covers.ensures ∙ ap (λ (n : ℕ). replicate n 0) many),
      c.requires,
    )
