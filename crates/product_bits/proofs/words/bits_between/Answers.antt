use Rattle.std.proofs.Common.{arith}
use Rattle.product_bits.proofs.BitLemmas.{between_bit}
use Rattle.product_bits.proofs.words.bits_between.Goals as goal

pub returns : goal.returns
returns c bit = between_bit c.args.low c.args.high bit (omega arith) (omega arith)
