use Rattle.std.proofs.Common.{arith}
use Rattle.point_tables.proofs.Asking.{asked_by_range}
use Rattle.point_tables.proofs.questions.by_set.Goals as goal

pub returns : goal.returns
returns c = λ typ bins v. asked_by_range c.args.set.now c.intervals-ranges.result.now _ _ bins v c.intervals-ranges.ensures.value (omega arith)
