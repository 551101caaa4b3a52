use Rattle.std.proofs.Common.{sym, subst}
use Rattle.design_data.specs.Limits.{IsShape}
use Rattle.cross_sampler.specs.declared.plan.CrossPlan.{CrossPlan}
use Rattle.cov_counting.proofs.Items.{few}
use Rattle.sampler_plans.specs.declared.plan.ItemPlan.TheVariants as plan
use Rattle.sampler_plans.specs.ItemPlans.{IsCrossPlan}
use Rattle.sampler_plans.proofs.planning.cross_plan.Goals as goal

pub new-requires : goal.new-requires
new-requires c = record {
  items = few c.args.items.now c.requires.items;
  few_bins = c.requires.item.bins;
  cross = subst (IsShape c.args.items.now c.args.item.now) c.requires.shape c.requires.item.shape;
}

pub returns : goal.returns
returns c =
    let items = c.args.items.now in
    let axes = c.args.axes.now in
    let cross = subst (IsShape items c.args.item.now) c.requires.shape c.requires.item.shape in
    subst (λ (p : CrossPlan). IsCrossPlan items c.args.item.now axes (plan.Cross p)) (sym c.in_ok-of.ensures)
    (c.in_ok-plan.ensures.plan, c.in_ok-plan.ensures.sizes, cross.points)
