use Rattle.std.proofs.Common.{arith}
use Rattle.std.proofs.lemmas.Option.{slice_get_within}
use Rattle.sampler_plans.proofs.known.all_serve.Goals as goal

pub returns-clause-plans : goal.returns-clause-plans
returns-clause-plans c = λ t k item p e f. c.loop-index.invariant k item p (omega (arith, slice_get_within c.args.items.now k item e, c.loop-index-test.false)) e f
