use Rattle.std.proofs.Common.{◌≡◌, ◌<◌, ◌+◌, refl, ap, sym, subst, ◌∙◌, List, ℕ, get_or, set, take, length, ◌++◌, ◌∷◌, [], arith}
use Rattle.std.specs.Prelude.{Contains}
use Rattle.std.proofs.lemmas.List.{length-set, take_more, get_or-take, length-take-le, get_or_default}
use Rattle.point_sampler.specs.Quick.{AreRaised}
use Rattle.point_sampler.proofs.Raising.{raised_none, raised_more}
use Rattle.point_sampler.proofs.quick.raise_each.Goals as goal

pub loop-place-init : goal.loop-place-init
loop-place-init c = record { same = refl; raised = raised_none c.args.first_bin c.args.counts.now }

pub loop-place-preserved : goal.loop-place-preserved
loop-place-preserved c =
    let met = c.args.met.now in
    let i = c.loop-place.place-index in
    let inv = c.loop-place.invariant in
    let first = c.args.first_bin in
    let counts = c.loop-place.counts in
    let lt : i < length met = c.loop-place-test.true in
    let place : ℕ = get_or met i 0 in
    let more : take (i + 1) met ≡ take i met ++ place ∷ [] = take_more met i 0 lt in
    let fresh : Contains (take i met) place → ⊥ = λ h.
    let less : h.0 < i = omega (arith, h.1, length-take-le i met (omega (arith, lt))) in
    c.requires.once h.0 i place less lt (sym (get_or-take i met h.0 place less) ∙ h.2 ∙ get_or_default met i 0 place lt) in
    let room : first + place < length counts = omega (arith, c.requires.within i 0 lt, inv.same) in
    record {
      same = length-set counts (first + place) c.saturating_add.result ∙ inv.same;
      raised = subst (λ (ps : List ℕ). AreRaised first ps c.args.counts.now (set counts (first + place) c.saturating_add.result)) (sym more)
          (subst (λ (cs : List ℕ). AreRaised first (take i met ++ place ∷ []) c.args.counts.now cs) (sym (ap (λ (u : ℕ). set counts (first + place) u) c.saturating_add.ensures))
          (raised_more first (take i met) place c.args.counts.now counts fresh room inv.raised));
    }
