use Rattle.std.proofs.Common.{arith}
use Rattle.sampler_plans.proofs.Alike.{same_by_place}
use Rattle.sampler_plans.proofs.sameness.same_seqs.Goals as goal

pub returns : goal.returns
returns c = λ t. same_by_place c.args.first.now c.args.second.now (omega (arith, c.if-first-second.false)) (λ k d lt. c.loop-k.invariant k d (omega (arith, lt, c.loop-k-test.false)))
