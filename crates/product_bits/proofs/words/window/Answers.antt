use Rattle.std.proofs.Common.{◌/◌, arith}
use Rattle.product_bits.proofs.WordLemmas.{window_split}
use Rattle.product_bits.proofs.words.window.Goals as goal

pub returns : goal.returns
returns c bit lt = window_split c.args.words.now c.args.from bit (λ e. absurd (omega arith)) lt (omega (arith, c.type_inv.words (c.args.from / 64)))
