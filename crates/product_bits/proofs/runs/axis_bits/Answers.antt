use Rattle.std.proofs.Common.{◌+◌, ◌*◌, ◌/◌, arith}
use Rattle.product_bits.proofs.RunLemmas.{comes_again}
use Rattle.product_bits.proofs.runs.axis_bits.Goals as goal

pub fill-requires-clause-periods : goal.fill-requires-clause-periods
fill-requires-clause-periods c n = comes_again c.args.stride c.args.size ((63 + c.args.stride * c.args.size) / (c.args.stride * c.args.size)) c.args.chosen.now n (omega (arith, c.requires.some))
