use Rattle.std.proofs.Common.{arith}
use Rattle.const_eval.proofs.Words.{none_left}
use Rattle.const_eval.proofs.shifts.shifted_left.Goals as goal

pub returns-else-amount-from-clause-value : goal.returns-else-amount-from-clause-value
returns-else-amount-from-clause-value c = none_left c.args.width c.args.amount c.args.signed c.args.x (omega arith)
