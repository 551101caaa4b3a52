use Rattle.std.proofs.Common.{◌≡◌, ◌∙◌, List, ℕ, length, drop, ap, sym, subst, arith}
use Rattle.design_data.specs.declared.infos.InstInfo.{InstInfo}
use Rattle.sampler_plans.specs.declared.plan.InstPlan.{InstPlan}
use Rattle.sampler_plans.specs.Shares.{IsPartTally}
use Rattle.sampler.specs.Starting.{AreAllZero}
use Rattle.sampler.specs.Walking.{IsWork, ShareCounted}
use Rattle.sampler.proofs.Starts.{written}
use Rattle.sampler.proofs.Parts.{is_work, part_counted}
use Rattle.sampler.proofs.binning.share_counts.Goals as goal

pub count_share-requires-clause-work : goal.count_share-requires-clause-work
count_share-requires-clause-work c =
    let d = c.args.design.now in
    let share = c.args.share.now in
    let n = length c.as_mut_slice.result.now in
    let sized : n ≡ d.bin_count = ap (λ (xs : List ℕ). length xs) c.as_mut_slice.ensures.value ∙ c.in_ok-counts.ensures.same in
    let work = is_work d c.args.plan.now c.args.labels.now c.args.parts c.args.part share c.requires.plan c.requires.together c.requires.share n sized in
    subst (λ (xs : List InstInfo). IsWork xs c.as_slice-plans.result.now share n) (sym c.instances.ensures) (subst (λ (ps : List InstPlan). IsWork d.instances ps share n) (sym c.as_slice-plans.ensures) work)

pub returns : goal.returns
returns c =
    let d = c.args.design.now in
    let r = c.args.rec.now in
    let share = c.args.share.now in
    let value = c.as_mut_slice.ensures.value in
    let old = c.as_mut_slice.result.now in
    let new = c.count_share.new.counts in
    let counted = subst (λ (xs : List InstInfo). ShareCounted r xs share old new) c.instances.ensures c.in_ok-count_share.ensures in
    let sized : length new ≡ d.bin_count = c.count_share.auto.counts ∙ ap (λ (xs : List ℕ). length xs) value ∙ c.in_ok-counts.ensures.same in
    let part = part_counted d c.args.plan.now c.args.labels.now c.args.parts c.args.part share c.requires.plan c.requires.together c.requires.share r old new sized (subst AreAllZero (sym value) c.in_ok-counts.ensures.zero) counted in
    let e = written c.in_ok-counts.counts.len new (drop (length new) c.in_ok-counts.counts.items) (omega (arith, c.count_share.auto.counts, c.as_mut_slice.ensures.len)) in
    subst (IsPartTally d r c.args.labels.now c.args.parts c.args.part) (sym e) part
