use Rattle.std.proofs.Common.{sym, arith}
use Rattle.const_eval.proofs.Words.{far}
use Rattle.const_eval.proofs.shifts.bits_shifted_right.Goals as goal

pub returns-else-amount-from : goal.returns-else-amount-from
returns-else-amount-from c = sym (far c.args.bits c.args.amount (omega arith) (omega arith))
