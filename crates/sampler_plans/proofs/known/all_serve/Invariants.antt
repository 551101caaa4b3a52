use Rattle.sampler_plans.proofs.Alike.{FirstPlans}
use Rattle.sampler_plans.proofs.known.all_serve.Given as goal

abbrev pub invariant-loop-index : goal.invariant-loop-index
invariant-loop-index l = FirstPlans l.items l.made l.index
