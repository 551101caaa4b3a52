use Rattle.std.proofs.Common.{◌∙◌, ap, subst}
use Rattle.cross_sampler.specs.declared.plan.CrossPlan.{CrossPlan}
use Rattle.sampler_plans.specs.declared.plan.ItemPlan.{ItemPlan}
use Rattle.sampler_plans.specs.ItemPlans.{IsCrossPlan}
use Rattle.sampler.specs.declared.instance.ItemState.{ItemState}
use Rattle.sampler.specs.Standing.{CrossStands}
use Rattle.sampler.proofs.Items.{are_hit}
use Rattle.sampler.proofs.instance.cross_taken.Goals as goal

pub returns-in_ok-sample-in-Cross-state-clause-taken : goal.returns-in_ok-sample-in-Cross-state-clause-taken
returns-in_ok-sample-in-Cross-state-clause-taken c = λ all m chosen sample own rows h.
    let items = c.args.items.now in
    let item = c.args.item.now in
    let axes = c.args.axes.now in
    let p = subst (λ (x : ItemPlan). IsCrossPlan items item axes x) c.in-Cross.is c.requires.plan in
    let taken = c.in_ok-sample-in-Cross-state.ensures.takes items all m (ap (λ (q : CrossPlan). q.sizes) c.get.ensures ∙ p.1) (record { within = sample.within; few = sample.few; is = sample.is }) (are_hit items chosen all m c.args.rows.now axes p.2 own rows)
    (subst (λ (s : ItemState). CrossStands items item axes all m s c.args.counts.now) c.in-Cross-state.is h) in
    record { cross_stands = taken.stands; cross_others = taken.others }
