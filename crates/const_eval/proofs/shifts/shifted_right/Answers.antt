use Rattle.std.proofs.Common.{arith}
use Rattle.std.proofs.lemmas.Int.{ints}
use Rattle.const_eval.proofs.Words.{far_below, far_above}
use Rattle.const_eval.proofs.shifts.shifted_right.Goals as goal

pub returns-then-x-lt0 : goal.returns-then-x-lt0
returns-then-x-lt0 c = far_below c.args.x c.args.amount c.requires (omega (arith, ints)) (omega (arith, ints))

pub returns-else-x-lt0 : goal.returns-else-x-lt0
returns-else-x-lt0 c = far_above c.args.x c.args.amount c.requires (omega (arith, ints)) (omega (arith, ints))
