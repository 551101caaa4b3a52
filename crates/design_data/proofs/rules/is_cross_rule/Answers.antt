use Rattle.design_data.proofs.Parts.{picked_is}
use Rattle.design_data.proofs.rules.is_cross_rule.Goals as goal

pub returns-else-not-fits : goal.returns-else-not-fits
returns-else-not-fits c = picked_is c.args.sizes.now c.args.bins.now c.args.kind c.args.rule.now c.in-Picked.select c.args.products.now c.fits.result c.has_some.result c.in-Picked.is c.if-not-fits.false c.fits.ensures c.requires c.has_some.ensures
