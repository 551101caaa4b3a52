use Rattle.std.proofs.Common.{◌≡◌, ◌<◌, ◌+◌, sym, subst, ◌∙◌, List, ℕ, get_or, take, length, ◌++◌, ◌∷◌, [], arith}
use Rattle.std.specs.Prelude.{Contains}
use Rattle.std.proofs.lemmas.List.{take_more, get_or-take, length-take-le, get_or_default}
use Rattle.point_sampler.specs.Met.{AllTaken}
use Rattle.point_sampler.proofs.Taking.{all_taken_more}
use Rattle.point_sampler.proofs.counting.count_each.Goals as goal

pub loop-place-preserved : goal.loop-place-preserved
loop-place-preserved c =
    let met = c.args.met.now in
    let i = c.loop-place.place-index in
    let inv = c.loop-place.invariant in
    let lt : i < length met = c.loop-place-test.true in
    let place : ℕ = get_or met i 0 in
    let more : take (i + 1) met ≡ take i met ++ place ∷ [] = take_more met i 0 lt in
    let fresh : Contains (take i met) place → ⊥ = λ h.
    let less : h.0 < i = omega (arith, h.1, length-take-le i met (omega (arith, lt))) in
    c.requires.once h.0 i place less lt (sym (get_or-take i met h.0 place less) ∙ h.2 ∙ get_or_default met i 0 place lt) in
    record {
      asked = c.in_ok-count_one.ensures.asked;
      same = c.count_one.auto.counts ∙ inv.same;
      taken = subst (λ (ps : List ℕ). AllTaken c.args.item.now c.args.env.now ps c.args.counts.now c.count_one.new.counts c.count_one.new.row.items) (sym more)
          (all_taken_more c.args.item.now c.args.env.now (take i met) place c.args.counts.now c.loop-place.counts c.count_one.new.counts c.loop-place.row.items c.count_one.new.row.items
          (c.requires.within i 0 lt) fresh (omega (arith, c.requires.counts, inv.same)) c.in_ok-count_one.ensures.taken inv.taken);
    }
