use Rattle.std.proofs.Common.{◌≡◌, ◌⊎◌, ◌+◌, ◌<◌, ◌∙◌, ℕ, List, [], length, Some, sym, subst, arith}
use Rattle.std.specs.Prelude.{slice_get}
use Rattle.std.proofs.lemmas.Option.{get_or_from_slice_get}
use Rattle.design_data.specs.declared.infos.ItemInfo.{ItemInfo}
use Rattle.design_data.specs.declared.infos.InstInfo.{InstInfo}
use Rattle.sampler_plans.specs.declared.plan.ItemPlan.{ItemPlan}
use Rattle.sampler_plans.specs.declared.plan.InstPlan.{InstPlan}
use Rattle.sampler.specs.declared.lists.QuickItem.{QuickItem}
use Rattle.sampler.specs.Walking.{IsInstWork}
use Rattle.sampler.specs.Quick.{IsQuickInst, AreQuickUpTo}
use Rattle.sampler.proofs.Items.{read_at}
use Rattle.sampler.proofs.Starts.{by_parts}
use Rattle.sampler.proofs.Ready.{up_to_more}
use Rattle.sampler.proofs.quick.QuickTable.of.Goals as goal

pub quick_items_at-requires-clause-plans : goal.quick_items_at-requires-clause-plans
quick_items_at-requires-clause-plans c =
    let instances = c.args.instances.now in
    let plans = c.args.plans.now in
    let share = c.args.share.now in
    let j = c.loop-j.j in
    let inst = c.index-instances-j.result in
    let p = c.index-plans-j.result in
    let own = c.index-share-j.result in
    let lt : j < length instances = omega arith in
    let at_inst : slice_get instances j ≡ Some inst = read_at instances j inst lt c.index-instances-j.is in
    let at_plan : slice_get plans j ≡ Some p = read_at plans j p (omega (arith, lt, c.requires.plan_count)) c.index-plans-j.is in
    let at_share : slice_get share j ≡ Some own = read_at share j own (omega (arith, lt, c.requires.share_count)) c.index-share-j.is in
    let items : c.as_slice-items.result.now ≡ inst.items = cc in
    let made : c.as_slice-own.result.now ≡ p.items = cc in
    let mine : c.as_slice-chosen.result.now ≡ own = cc in
    let work : IsInstWork c.as_slice-items.result.now c.as_slice-own.result.now c.as_slice-chosen.result.now (length c.args.counts.now) =
    by_parts (λ (xs : List ItemInfo) (ps : List ItemPlan) (ks : List ℕ). IsInstWork xs ps ks (length c.args.counts.now)) inst.items c.as_slice-items.result.now p.items c.as_slice-own.result.now own c.as_slice-chosen.result.now (sym items) (sym made) (sym mine)
    (c.requires.each j inst p own at_inst at_plan at_share) in
    work.same_plans

pub quick_items_at-requires-clause-chosen : goal.quick_items_at-requires-clause-chosen
quick_items_at-requires-clause-chosen c =
    let instances = c.args.instances.now in
    let plans = c.args.plans.now in
    let share = c.args.share.now in
    let j = c.loop-j.j in
    let inst = c.index-instances-j.result in
    let p = c.index-plans-j.result in
    let own = c.index-share-j.result in
    let lt : j < length instances = omega arith in
    let at_inst : slice_get instances j ≡ Some inst = read_at instances j inst lt c.index-instances-j.is in
    let at_plan : slice_get plans j ≡ Some p = read_at plans j p (omega (arith, lt, c.requires.plan_count)) c.index-plans-j.is in
    let at_share : slice_get share j ≡ Some own = read_at share j own (omega (arith, lt, c.requires.share_count)) c.index-share-j.is in
    let items : c.as_slice-items.result.now ≡ inst.items = cc in
    let made : c.as_slice-own.result.now ≡ p.items = cc in
    let mine : c.as_slice-chosen.result.now ≡ own = cc in
    let work : IsInstWork c.as_slice-items.result.now c.as_slice-own.result.now c.as_slice-chosen.result.now (length c.args.counts.now) =
    by_parts (λ (xs : List ItemInfo) (ps : List ItemPlan) (ks : List ℕ). IsInstWork xs ps ks (length c.args.counts.now)) inst.items c.as_slice-items.result.now p.items c.as_slice-own.result.now own c.as_slice-chosen.result.now (sym items) (sym made) (sym mine)
    (c.requires.each j inst p own at_inst at_plan at_share) in
    work.chosen_items

pub loop-j-preserved : goal.loop-j-preserved
loop-j-preserved c =
    let r = c.args.rec.now in
    let instances = c.args.instances.now in
    let plans = c.args.plans.now in
    let share = c.args.share.now in
    let j = c.loop-j.j in
    let inst = c.index-instances-j.result in
    let p = c.index-plans-j.result in
    let own = c.index-share-j.result in
    let old = c.loop-j.exprs.items in
    let new = c.quick_items_at.new.exprs.items in
    let list = c.in_ok-list.list.items in
    let lt : j < length instances = omega arith in
    let at_inst : slice_get instances j ≡ Some inst = read_at instances j inst lt c.index-instances-j.is in
    let at_plan : slice_get plans j ≡ Some p = read_at plans j p (omega (arith, lt, c.requires.plan_count)) c.index-plans-j.is in
    let at_share : slice_get share j ≡ Some own = read_at share j own (omega (arith, lt, c.requires.share_count)) c.index-share-j.is in
    let items : c.as_slice-items.result.now ≡ inst.items = cc in
    let made : c.as_slice-own.result.now ≡ p.items = cc in
    let mine : c.as_slice-chosen.result.now ≡ own = cc in
    let here : (list ≡ []) ⊎ IsQuickInst r j new inst.items p.items own list =
    by_parts (λ (xs : List ItemInfo) (ps : List ItemPlan) (ks : List ℕ). (list ≡ []) ⊎ IsQuickInst r j new xs ps ks list) c.as_slice-items.result.now inst.items c.as_slice-own.result.now p.items c.as_slice-chosen.result.now own items made mine c.in_ok-list.ensures.quick in
    subst (λ (lists : List (List QuickItem)). AreQuickUpTo (j + 1) r instances plans share new lists) (sym c.in_ok-push.ensures)
    (up_to_more j r instances plans share old new c.loop-j.lists list c.in_ok-list.ensures.kept
    (λ inst' p' own' e f g.
    let is_inst : inst ≡ inst' = sym (get_or_from_slice_get instances j inst inst at_inst) ∙ get_or_from_slice_get instances j inst' inst e in
    let is_plan : p ≡ p' = sym (get_or_from_slice_get plans j p p at_plan) ∙ get_or_from_slice_get plans j p' p f in
    let is_own : own ≡ own' = sym (get_or_from_slice_get share j own own at_share) ∙ get_or_from_slice_get share j own' own g in
    subst (λ (ks : List ℕ). (list ≡ []) ⊎ IsQuickInst r j new inst'.items p'.items ks list) is_own
    (subst (λ (q : InstPlan). (list ≡ []) ⊎ IsQuickInst r j new inst'.items q.items own list) is_plan
    (subst (λ (x : InstInfo). (list ≡ []) ⊎ IsQuickInst r j new x.items p.items own list) is_inst here)))
    c.loop-j.invariant)
