use Rattle.std.proofs.Common.{refl, arith}
use Rattle.trans_seq.proofs.SameLemmas.{same-by-index}
use Rattle.trans_seq.proofs.seq.same_items.Goals as goal

pub returns : goal.returns
returns c =
    ((λ t. same-by-index c.args.first.now c.args.second.now (omega (arith, c.if-first-second.false)) (λ k d lt. c.loop-k.invariant k d (omega (arith, lt, c.loop-k-test.false)))), (λ e. refl))
