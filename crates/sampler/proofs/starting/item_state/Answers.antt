use Rattle.std.proofs.Common.{◌≡◌, ◌∙◌, List, length, ap, sym, subst}
use Rattle.const_eval.specs.Terms.{Term}
use Rattle.design_data.specs.declared.infos.ItemInfo.{ItemInfo}
use Rattle.design_data.specs.declared.infos.BinInfo.{BinInfo}
use Rattle.record_codec.specs.Samples.{Env}
use Rattle.point_sampler.specs.Points.{StateStands}
use Rattle.point_sampler.specs.declared.plan.PointPlan.{PointPlan}
use Rattle.sampler_plans.specs.declared.plan.ItemPlan.{ItemPlan}
use Rattle.sampler_plans.specs.ItemPlans.{IsPlanOf}
use Rattle.sampler.specs.declared.instance.ItemState.TheVariants as kept
use Rattle.sampler.specs.Standing.{FitsItem, Stands}
use Rattle.sampler.proofs.Starts.{start_point, start_cross}
use Rattle.sampler.proofs.starting.item_state.Goals as goal

pub returns-in_ok-start-in-Point-clause-stands : goal.returns-in_ok-start-in-Point-clause-stands
returns-in_ok-start-in-Point-clause-stands c = λ all counts zeros.
    let items = c.args.items.now in
    let item = c.args.item.now in
    subst (λ (p : ItemPlan). Stands items item all 0 item.shape p (kept.Point c.in_ok-start-in-Point.field-0) counts) (sym c.in-Point.is)
    (start_point items item all counts item.shape c.in-Point.plan c.in_ok-start-in-Point.field-0 (subst (λ (p : ItemPlan). IsPlanOf items item item.shape p) c.in-Point.is c.requires) (subst (λ (p : PointPlan). (item : ItemInfo) (expr : Term) (all : List Env) → StateStands item expr p all 0 c.in_ok-start-in-Point.field-0) c.get.ensures c.in_ok-start-in-Point.ensures.stands) zeros)

pub returns-in_ok-new-in-Cross-clause-stands : goal.returns-in_ok-new-in-Cross-clause-stands
returns-in_ok-new-in-Cross-clause-stands c = λ all counts zeros.
    let items = c.args.items.now in
    let item = c.args.item.now in
    subst (λ (p : ItemPlan). Stands items item all 0 item.shape p (kept.Cross c.in_ok-new-in-Cross.field-0) counts) (sym c.in-Cross.is)
    (start_cross items item all counts item.shape c.in-Cross.field-0 c.in_ok-new-in-Cross.field-0 (subst (λ (p : ItemPlan). IsPlanOf items item item.shape p) c.in-Cross.is c.requires) c.in_ok-new-in-Cross.ensures.samples c.in_ok-new-in-Cross.ensures.marks zeros)

pub returns-in_ok-new-in-Cross-clause-fits : goal.returns-in_ok-new-in-Cross-clause-fits
returns-in_ok-new-in-Cross-clause-fits c =
    let item = c.args.item.now in
    let s = c.in_ok-new-in-Cross.field-0 in
    let p = c.in-Cross.field-0 in
    let stamps : length s.stamps.items ≡ length item.bins = c.in_ok-new-in-Cross.ensures.stamps ∙ ap (λ (bins : List BinInfo). length bins) c.as_slice.ensures in
    subst (λ (q : ItemPlan). FitsItem item q (kept.Cross s)) (sym c.in-Cross.is) (record { stamps = stamps; known = c.in_ok-new-in-Cross.ensures.known p.sizes item.bins })
