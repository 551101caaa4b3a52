use Rattle.std.proofs.Common.{ap, arith}
use Rattle.cross_select.specs.Products.{product_of}
use Rattle.cross_sampler.proofs.Radix.{all_some}
use Rattle.cross_sampler.proofs.Bins.{nothing_planned}
use Rattle.cross_sampler.proofs.building.plan.Goals as goal

pub returns-then-count-eq0-clause-plan : goal.returns-then-count-eq0-clause-plan
returns-then-count-eq0-clause-plan c =
    nothing_planned c.args.bins.now c.args.sizes c.declared_end-declared.result c.guard_end-guards.result c.empty_plan.result c.requires.few_bins (omega (arith, c.if-count-eq0.true, c.all_products-count.ensures, ap product_of c.as_slice.ensures)) c.declared_end-declared.ensures c.guard_end-guards.ensures
    c.empty_plan.ensures.sizes c.empty_plan.ensures.declared c.empty_plan.ensures.guards c.empty_plan.ensures.table

pub full_plan-requires-clause-some : goal.full_plan-requires-clause-some
full_plan-requires-clause-some c = all_some c.args.sizes (λ e. absurd (omega (arith, e, c.if-count-eq0.false, c.all_products-count.ensures, ap product_of c.as_slice.ensures)))
