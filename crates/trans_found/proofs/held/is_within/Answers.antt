use Rattle.std.proofs.Common.{arith}
use Rattle.std.proofs.lemmas.Int.{ints}
use Rattle.trans_found.proofs.HeldLemmas.{part-within}
use Rattle.trans_found.proofs.held.is_within.Goals as goal

pub returns : goal.returns
returns c = λ yes.
    part-within c.args.range c.args.other
    (omega (arith, ints, c.get.ensures.value, c.get-2.ensures.value, c.if-get.false))
    (omega (arith, ints, c.get-3.ensures.value, c.get-4.ensures.value, yes))
