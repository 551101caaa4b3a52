use Rattle.std.proofs.Common.{◌≡◌, length}
use Rattle.sampler_plans.specs.ItemPlans.{ArePlans}
use Rattle.sampler_plans.proofs.planning.item_plans.Given as goal

abbrev pub invariant-loop-index : goal.invariant-loop-index
invariant-loop-index l = record {
  same : length l.plans ≡ l.index;
  plans : ArePlans l.items l.plans;
}
