use Rattle.std.proofs.Common.{◌≡◌, ◌∙◌, ◌+◌, ◌∷◌, [], List, ℕ, length, ap, arith, length-append, Some, sym}
use Rattle.std.specs.Prelude.{slice_get}
use Rattle.std.proofs.lemmas.Option.{slice_get_within}
use Rattle.design_data.specs.declared.infos.ItemInfo.{ItemInfo}
use Rattle.record_codec.specs.Samples.{Env}
use Rattle.sampler_plans.specs.declared.plan.ItemPlan.{ItemPlan}
use Rattle.sampler_plans.specs.ItemPlans.{ArePlans}
use Rattle.sampler_plans.proofs.Places.{each_push}
use Rattle.sampler.specs.declared.instance.InstState.{InstState}
use Rattle.sampler.specs.Standing.{AreChosen, AllStand}
use Rattle.sampler.specs.Starting.{AreAllZero}
use Rattle.sampler.specs.Walking.{InstFits}
use Rattle.sampler.proofs.Items.{read_at}
use Rattle.sampler.proofs.Starts.{InstFitsAt, InstStartsAt, inst_fits_here, inst_starts_here, by_parts}
use Rattle.sampler.proofs.starting.inst_states.Goals as goal

pub inst_state-requires-clause-same : goal.inst_state-requires-clause-same
inst_state-requires-clause-same c =
    let instances = c.args.instances.now in
    let plans = c.args.plans.now in
    let share = c.args.share.now in
    let j = c.loop-j.j in
    let inst = c.index-instances-j.result in
    let p = c.index-plans-j.result in
    let own = c.index-share-j.result in
    let at_inst : slice_get instances j ≡ Some inst = read_at instances j inst c.loop-j-test.true c.index-instances-j.is in
    let at_plan : slice_get plans j ≡ Some p = read_at plans j p (omega (arith, c.loop-j-test.true, c.requires.work.plan_count)) c.index-plans-j.is in
    let at_share : slice_get share j ≡ Some own = read_at share j own (omega (arith, c.loop-j-test.true, c.requires.work.share_count)) c.index-share-j.is in
    let items : c.as_slice-items.result.now ≡ inst.items = cc in
    let made : c.as_slice-own.result.now ≡ p.items = cc in
    let mine : c.as_slice-chosen.result.now ≡ own = cc in
    by_parts (λ (xs : List ItemInfo) (ps : List ItemPlan) (ks : List ℕ). length ps ≡ length xs) inst.items c.as_slice-items.result.now p.items c.as_slice-own.result.now own c.as_slice-chosen.result.now (sym items) (sym made) (sym mine)
    (c.requires.work.each j inst p own at_inst at_plan at_share).same_plans

pub inst_state-requires-clause-plans : goal.inst_state-requires-clause-plans
inst_state-requires-clause-plans c =
    let instances = c.args.instances.now in
    let plans = c.args.plans.now in
    let share = c.args.share.now in
    let j = c.loop-j.j in
    let inst = c.index-instances-j.result in
    let p = c.index-plans-j.result in
    let own = c.index-share-j.result in
    let at_inst : slice_get instances j ≡ Some inst = read_at instances j inst c.loop-j-test.true c.index-instances-j.is in
    let at_plan : slice_get plans j ≡ Some p = read_at plans j p (omega (arith, c.loop-j-test.true, c.requires.work.plan_count)) c.index-plans-j.is in
    let at_share : slice_get share j ≡ Some own = read_at share j own (omega (arith, c.loop-j-test.true, c.requires.work.share_count)) c.index-share-j.is in
    let items : c.as_slice-items.result.now ≡ inst.items = cc in
    let made : c.as_slice-own.result.now ≡ p.items = cc in
    let mine : c.as_slice-chosen.result.now ≡ own = cc in
    by_parts (λ (xs : List ItemInfo) (ps : List ItemPlan) (ks : List ℕ). ArePlans xs ps) inst.items c.as_slice-items.result.now p.items c.as_slice-own.result.now own c.as_slice-chosen.result.now (sym items) (sym made) (sym mine)
    (c.requires.work.each j inst p own at_inst at_plan at_share).are_plans

pub inst_state-requires-clause-chosen : goal.inst_state-requires-clause-chosen
inst_state-requires-clause-chosen c =
    let instances = c.args.instances.now in
    let plans = c.args.plans.now in
    let share = c.args.share.now in
    let j = c.loop-j.j in
    let inst = c.index-instances-j.result in
    let p = c.index-plans-j.result in
    let own = c.index-share-j.result in
    let at_inst : slice_get instances j ≡ Some inst = read_at instances j inst c.loop-j-test.true c.index-instances-j.is in
    let at_plan : slice_get plans j ≡ Some p = read_at plans j p (omega (arith, c.loop-j-test.true, c.requires.work.plan_count)) c.index-plans-j.is in
    let at_share : slice_get share j ≡ Some own = read_at share j own (omega (arith, c.loop-j-test.true, c.requires.work.share_count)) c.index-share-j.is in
    let items : c.as_slice-items.result.now ≡ inst.items = cc in
    let made : c.as_slice-own.result.now ≡ p.items = cc in
    let mine : c.as_slice-chosen.result.now ≡ own = cc in
    by_parts (λ (xs : List ItemInfo) (ps : List ItemPlan) (ks : List ℕ). AreChosen xs ks) inst.items c.as_slice-items.result.now p.items c.as_slice-own.result.now own c.as_slice-chosen.result.now (sym items) (sym made) (sym mine)
    (c.requires.work.each j inst p own at_inst at_plan at_share).chosen_items

pub loop-j-preserved : goal.loop-j-preserved
loop-j-preserved c =
    let instances = c.args.instances.now in
    let plans = c.args.plans.now in
    let share = c.args.share.now in
    let j = c.loop-j.j in
    let inst = c.index-instances-j.result in
    let p = c.index-plans-j.result in
    let own = c.index-share-j.result in
    let at_inst : slice_get instances j ≡ Some inst = read_at instances j inst c.loop-j-test.true c.index-instances-j.is in
    let at_plan : slice_get plans j ≡ Some p = read_at plans j p (omega (arith, c.loop-j-test.true, c.requires.work.plan_count)) c.index-plans-j.is in
    let at_share : slice_get share j ≡ Some own = read_at share j own (omega (arith, c.loop-j-test.true, c.requires.work.share_count)) c.index-share-j.is in
    let items : c.as_slice-items.result.now ≡ inst.items = cc in
    let made : c.as_slice-own.result.now ≡ p.items = cc in
    let mine : c.as_slice-chosen.result.now ≡ own = cc in
    let kept = c.loop-j.kept.items in
    let new = c.push.new.self.items in
    let state = c.in_ok-inst_state.field-0 in
    let inv = c.loop-j.invariant in
    let fits = by_parts (λ (xs : List ItemInfo) (ps : List ItemPlan) (ks : List ℕ). InstFits xs ps ks state) c.as_slice-items.result.now inst.items c.as_slice-own.result.now p.items c.as_slice-chosen.result.now own items made mine c.in_ok-inst_state.ensures.fits in
    let starts = by_parts (λ (xs : List ItemInfo) (ps : List ItemPlan) (ks : List ℕ). (all : List Env) (counts : List ℕ) → AreAllZero counts → AllStand xs ps ks all (λ shape. 0) state.states.items counts)
    c.as_slice-items.result.now inst.items c.as_slice-own.result.now p.items c.as_slice-chosen.result.now own items made mine c.in_ok-inst_state.ensures.stands in
    record {
      same = ap (λ (xs : List InstState). length xs) c.in_ok-push.ensures.items ∙ length-append kept (state ∷ []) ∙ ap (λ (n : ℕ). n + 1) inv.same;
      fits = each_push (InstFitsAt instances plans share) kept new j state inv.same c.in_ok-push.ensures.items (inst_fits_here instances plans share j inst p own state at_inst at_plan at_share fits) inv.fits;
      stands = λ zeros. each_push (InstStartsAt instances plans share c.args.counts.now) kept new j state inv.same c.in_ok-push.ensures.items (inst_starts_here instances plans share j inst p own state at_inst at_plan at_share c.args.counts.now zeros starts) (inv.stands zeros);
    }

pub returns-clause-fits : goal.returns-clause-fits
returns-clause-fits c = record {
  same = omega (arith, c.loop-j.invariant.same);
  at = λ j inst p chosen k e f g. c.loop-j.invariant.fits j k (omega (arith, slice_get_within c.args.instances.now j inst e, c.loop-j-test.false)) inst p chosen e f g;
}

pub returns-clause-stand : goal.returns-clause-stand
returns-clause-stand c = λ zeros j inst p chosen k all e f g.
    c.loop-j.invariant.stands zeros j k (omega (arith, slice_get_within c.args.instances.now j inst e, c.loop-j-test.false)) inst p chosen all e f g
