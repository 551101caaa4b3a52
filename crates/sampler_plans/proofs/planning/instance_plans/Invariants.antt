use Rattle.std.proofs.Common.{◌≡◌, length}
use Rattle.sampler_plans.specs.Plans.{AreInstPlans}
use Rattle.sampler_plans.proofs.planning.instance_plans.Given as goal

abbrev pub invariant-loop-index : goal.invariant-loop-index
invariant-loop-index l = record {
  same : length l.plans ≡ l.index;
  plans : AreInstPlans l.instances l.plans;
}
