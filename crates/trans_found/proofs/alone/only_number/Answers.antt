use Rattle.std.proofs.Common.{arith}
use Rattle.trans_found.proofs.AloneLemmas.{only-number}
use Rattle.trans_found.proofs.alone.only_number.Goals as goal

pub returns-then-count-eq1 : goal.returns-then-count-eq1
returns-then-count-eq1 c = only-number _ c.nth.result (omega (arith, c.count.ensures.value, c.if-count-eq1.true)) c.nth.ensures
