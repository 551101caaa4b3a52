use Rattle.std.proofs.Common.{◌∙◌}
use Rattle.cross_sampler.proofs.Bins.{has_front}
use Rattle.cross_sampler.proofs.building.has_product.Goals as goal

pub returns : goal.returns
returns c = c.has.ensures ∙ has_front c.args.bins.now c.args.declared c.args.bin.now.kind c.args.bin.now.rule c.args.product.now c.requires
