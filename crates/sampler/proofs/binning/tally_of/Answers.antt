use Rattle.std.proofs.Common.{arith}
use Rattle.sampler.proofs.binning.tally_of.Goals as goal

pub of-requires : goal.of-requires
of-requires c = omega (arith, c.requires.same, c.args.design.now.within.few_bins)

pub returns : goal.returns
returns c = (c.args.counts.now, c.requires, c.in_ok-of.ensures.rows)
