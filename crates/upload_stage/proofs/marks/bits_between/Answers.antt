use Rattle.std.proofs.Common.{arith}
use Rattle.upload_stage.proofs.Bits.{below_zero, inside_one, above_zero}
use Rattle.upload_stage.proofs.marks.bits_between.Goals as goal

pub returns-clause-below : goal.returns-clause-below
returns-clause-below c bit lt = below_zero c.args.low c.args.high bit (omega arith) (omega arith) lt

pub returns-clause-inside : goal.returns-clause-inside
returns-clause-inside c bit le lt = inside_one c.args.low c.args.high bit (omega arith) (omega arith) le lt

pub returns-clause-above : goal.returns-clause-above
returns-clause-above c bit le = above_zero c.args.low c.args.high bit (omega arith) (omega arith) le
