use Rattle.sampler.proofs.Parts.{whole}
use Rattle.sampler.proofs.binning.counts_under.Goals as goal

pub returns : goal.returns
returns c = whole c.args.design.now c.args.rec.now c.in_ok-counts.counts.items c.in_ok-counts.ensures
