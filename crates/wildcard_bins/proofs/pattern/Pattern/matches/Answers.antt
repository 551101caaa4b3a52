use Rattle.std.proofs.Common.{arith}
use Rattle.std.proofs.lemmas.Int.{ints}
use Rattle.wildcard_bins.proofs.Agreement.{too_low, too_high, matched}
use Rattle.wildcard_bins.proofs.pattern.Pattern.matches.Goals as goal

pub returns-then-number-low : goal.returns-then-number-low
returns-then-number-low c = too_low c.args.self.now c.args.v (omega (arith, ints, c.if-number-low.true, c.lowest.ensures, c.get-low.ensures.value, c.get-number.ensures.value))

pub returns-then-number-high : goal.returns-then-number-high
returns-then-number-high c = too_high c.args.self.now c.args.v (omega (arith, ints, c.if-number-high.true, c.highest.ensures, c.get-high.ensures.value, c.get-number.ensures.value))

pub returns : goal.returns
returns c = rw c.ones.ensures (matched c.args.self.now c.args.v c.bits_of.result c.get-width.ensures.range.1 (omega arith) (omega (arith, ints, c.if-number-low.false, c.lowest.ensures, c.get-low.ensures.value, c.get-number.ensures.value)) (omega (arith, ints, c.if-number-high.false, c.highest.ensures, c.get-high.ensures.value, c.get-number.ensures.value)) c.bits_of.ensures.value)
