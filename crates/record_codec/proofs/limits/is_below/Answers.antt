use Rattle.record_codec.proofs.LimitTests.{bits_test}
use Rattle.record_codec.proofs.limits.is_below.Goals as goal

pub returns : goal.returns
returns c = rw c.most_of.ensures (bits_test c.args.width c.args.bits c.ranges.bits.fits)
