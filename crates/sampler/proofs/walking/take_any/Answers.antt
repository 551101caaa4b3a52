use Rattle.std.proofs.Common.{◌≡◌, ◌∙◌, ◌∷◌, ◌<◌, ◌≤◌, List, ℕ, length, get_or, set, Some, ap, sym, subst, arith}
use Rattle.std.specs.Prelude.{Option, slice_get}
use Rattle.design_data.specs.declared.infos.ItemInfo.{ItemInfo}
use Rattle.record_codec.specs.declared.record.Event.{Event}
use Rattle.record_codec.specs.declared.record.Event.TheVariants.{Set, Sample}
use Rattle.record_codec.specs.declared.record.SignalRow.{SignalRow}
use Rattle.sampler_plans.specs.declared.plan.ItemPlan.{ItemPlan}
use Rattle.sampler.specs.declared.instance.InstState.{InstState}
use Rattle.sampler.specs.Values.{Holds}
use Rattle.sampler.specs.Standing.{InstAt, InstTaken}
use Rattle.sampler.specs.Walking.{IsInstWork, InstFits, WalkAt}
use Rattle.sampler.proofs.Items.{read_at, same_read}
use Rattle.sampler.proofs.Starts.{by_parts}
use Rattle.sampler.proofs.Walks.{walk_set, walk_past, walk_sample, inst_fits_more}
use Rattle.sampler.proofs.walking.take_any.Goals as goal

pub returns-in-Set-clause-at : goal.returns-in-Set-clause-at
returns-in-Set-clause-at c = λ start before events few h.
    let r = c.args.rec.now in
    let instances = c.args.instances.now in
    let plans = c.args.plans.now in
    let share = c.args.share.now in
    let old = c.args.values.now in
    let new = c.set_signal.new.values in
    let kept = c.args.kept.now.items in
    let counts = c.args.counts.now in
    subst (λ (e : Event). WalkAt r instances plans share (e ∷ before) events new start kept counts) (sym c.in-Set.is)
    (walk_set r instances plans share before events c.in-Set.signal c.in-Set.value old new start kept counts
    (λ holds. subst (λ (rows : List SignalRow). Holds rows (Set c.in-Set.signal c.in-Set.value ∷ before) new) c.as_slice.ensures
    (c.set_signal.ensures before (subst (λ (rows : List SignalRow). Holds rows before old) (sym c.as_slice.ensures) holds)))
    (subst (λ (e : Event). WalkAt r instances plans share before (e ∷ events) old start kept counts) c.in-Set.is h))

pub returns-then-index-instances-clause-at : goal.returns-then-index-instances-clause-at
returns-then-index-instances-clause-at c = λ start before events few h.
    let r = c.args.rec.now in
    let instances = c.args.instances.now in
    let plans = c.args.plans.now in
    let share = c.args.share.now in
    let values = c.args.values.now in
    let kept = c.args.kept.now.items in
    let counts = c.args.counts.now in
    let past : length instances ≤ c.in-Sample.instance = omega arith in
    subst (λ (e : Event). WalkAt r instances plans share (e ∷ before) events values start kept counts) (sym c.in-Sample.is)
    (walk_past r instances plans share before events c.in-Sample.instance c.in-Sample.args values start kept counts past
    (subst (λ (e : Event). WalkAt r instances plans share before (e ∷ events) values start kept counts) c.in-Sample.is h))

pub take_sample-requires-clause-work : goal.take_sample-requires-clause-work
take_sample-requires-clause-work c =
    let lt : c.in-Sample.instance < length c.args.instances.now = omega arith in
    let instances = c.args.instances.now in
    let plans = c.args.plans.now in
    let share = c.args.share.now in
    let j = c.in-Sample.instance in
    let inst = c.index-instances-index.result in
    let p = c.index-plans-index.result in
    let own = c.index-share-index.result in
    let at_inst : slice_get instances j ≡ Some inst = read_at instances j inst lt c.index-instances-index.is in
    let at_plan : slice_get plans j ≡ Some p = read_at plans j p (omega (arith, lt, c.requires.work.plan_count)) c.index-plans-index.is in
    let at_share : slice_get share j ≡ Some own = read_at share j own (omega (arith, lt, c.requires.work.share_count)) c.index-share-index.is in
    let items : c.as_slice-items.result.now ≡ inst.items = cc in
    let made : c.as_slice-own.result.now ≡ p.items = cc in
    let mine : c.as_slice-chosen.result.now ≡ own = cc in
    by_parts (λ (xs : List ItemInfo) (ps : List ItemPlan) (ks : List ℕ). IsInstWork xs ps ks (length c.args.counts.now)) inst.items c.as_slice-items.result.now p.items c.as_slice-own.result.now own c.as_slice-chosen.result.now (sym items) (sym made) (sym mine)
    (c.requires.work.each j inst p own at_inst at_plan at_share)

pub take_sample-requires-clause-fits : goal.take_sample-requires-clause-fits
take_sample-requires-clause-fits c =
    let lt : c.in-Sample.instance < length c.args.instances.now = omega arith in
    let instances = c.args.instances.now in
    let plans = c.args.plans.now in
    let share = c.args.share.now in
    let j = c.in-Sample.instance in
    let inst = c.index-instances-index.result in
    let p = c.index-plans-index.result in
    let own = c.index-share-index.result in
    let at_inst : slice_get instances j ≡ Some inst = read_at instances j inst lt c.index-instances-index.is in
    let at_plan : slice_get plans j ≡ Some p = read_at plans j p (omega (arith, lt, c.requires.work.plan_count)) c.index-plans-index.is in
    let at_share : slice_get share j ≡ Some own = read_at share j own (omega (arith, lt, c.requires.work.share_count)) c.index-share-index.is in
    let items : c.as_slice-items.result.now ≡ inst.items = cc in
    let made : c.as_slice-own.result.now ≡ p.items = cc in
    let mine : c.as_slice-chosen.result.now ≡ own = cc in
    let state = c.index_mut-state.result.now in
    let fits = c.requires.fits.at j inst p own state at_inst at_plan at_share in
    by_parts (λ (xs : List ItemInfo) (ps : List ItemPlan) (ks : List ℕ). InstFits xs ps ks state) inst.items c.as_slice-items.result.now p.items c.as_slice-own.result.now own c.as_slice-chosen.result.now (sym items) (sym made) (sym mine)
    (subst (InstFits inst.items p.items own) (sym c.index_mut-state.ensures.value) fits)

pub returns-in_ok-take_sample-in-Sample-clause-fits : goal.returns-in_ok-take_sample-in-Sample-clause-fits
returns-in_ok-take_sample-in-Sample-clause-fits c =
    let lt : c.in-Sample.instance < length c.args.instances.now = omega arith in
    let instances = c.args.instances.now in
    let plans = c.args.plans.now in
    let share = c.args.share.now in
    let j = c.in-Sample.instance in
    let inst = c.index-instances-index.result in
    let p = c.index-plans-index.result in
    let own = c.index-share-index.result in
    let at_inst : slice_get instances j ≡ Some inst = read_at instances j inst lt c.index-instances-index.is in
    let at_plan : slice_get plans j ≡ Some p = read_at plans j p (omega (arith, lt, c.requires.work.plan_count)) c.index-plans-index.is in
    let at_share : slice_get share j ≡ Some own = read_at share j own (omega (arith, lt, c.requires.work.share_count)) c.index-share-index.is in
    let items : c.as_slice-items.result.now ≡ inst.items = cc in
    let made : c.as_slice-own.result.now ≡ p.items = cc in
    let mine : c.as_slice-chosen.result.now ≡ own = cc in
    let state = c.take_sample.new.kept in
    let fits = by_parts (λ (xs : List ItemInfo) (ps : List ItemPlan) (ks : List ℕ). InstFits xs ps ks state) c.as_slice-items.result.now inst.items c.as_slice-own.result.now p.items c.as_slice-chosen.result.now own items made mine c.in_ok-take_sample-in-Sample.ensures.fits in
    inst_fits_more instances plans share j inst p own c.args.kept.now.items state at_inst at_plan at_share fits c.requires.fits

pub returns-in_ok-take_sample-in-Sample-clause-at : goal.returns-in_ok-take_sample-in-Sample-clause-at
returns-in_ok-take_sample-in-Sample-clause-at c = λ start before events few h.
    let lt : c.in-Sample.instance < length c.args.instances.now = omega arith in
    let instances = c.args.instances.now in
    let plans = c.args.plans.now in
    let share = c.args.share.now in
    let j = c.in-Sample.instance in
    let inst = c.index-instances-index.result in
    let p = c.index-plans-index.result in
    let own = c.index-share-index.result in
    let at_inst : slice_get instances j ≡ Some inst = read_at instances j inst lt c.index-instances-index.is in
    let at_plan : slice_get plans j ≡ Some p = read_at plans j p (omega (arith, lt, c.requires.work.plan_count)) c.index-plans-index.is in
    let at_share : slice_get share j ≡ Some own = read_at share j own (omega (arith, lt, c.requires.work.share_count)) c.index-share-index.is in
    let items : c.as_slice-items.result.now ≡ inst.items = cc in
    let made : c.as_slice-own.result.now ≡ p.items = cc in
    let mine : c.as_slice-chosen.result.now ≡ own = cc in
    let r = c.args.rec.now in
    let values = c.args.values.now in
    let new_values = c.take_sample.new.values in
    let kept = c.args.kept.now.items in
    let state = c.take_sample.new.kept in
    let old = c.index_mut-state.result.now in
    let counts = c.args.counts.now in
    let new_counts = c.take_sample.new.counts in
    let args = c.as_slice-args.result.now in
    let event : c.args.event.now ≡ Sample j args = c.in-Sample.is ∙ ap (λ (xs : List (Option ℕ)). Sample j xs) (sym c.as_slice-args.ensures) in
    let inside : j < length kept = omega (arith, lt, c.requires.fits.same) in
    let holds = c.in_ok-take_sample-in-Sample.ensures.holds before in
    let at = by_parts (λ (xs : List ItemInfo) (ps : List ItemPlan) (ks : List ℕ). Holds r.signals before values → InstAt r j xs ps ks before (Sample j args ∷ events) old.states.items counts
    → InstTaken r j xs ps ks (Sample j args ∷ before) events counts state.states.items new_counts)
    c.as_slice-items.result.now inst.items c.as_slice-own.result.now p.items c.as_slice-chosen.result.now own items made mine (c.in_ok-take_sample-in-Sample.ensures.at before events few) in
    let read : get_or kept j state ≡ old = same_read kept j state old inside c.index_mut-state.ensures.value in
    subst (λ (e : Event). WalkAt r instances plans share (e ∷ before) events new_values start (set kept j state) new_counts) (sym event)
    (walk_sample r instances plans share before events j (length counts) args inst p own values new_values start kept state counts new_counts c.requires.work at_inst at_plan at_share inside holds
    (λ held now. at held (subst (λ (s : InstState). InstAt r j inst.items p.items own before (Sample j args ∷ events) s.states.items counts) read now))
    (subst (λ (e : Event). WalkAt r instances plans share before (e ∷ events) values start kept counts) event h))
