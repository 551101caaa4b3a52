use Rattle.cov_base.specs.Sets.{written}
use Rattle.elab_bins.specs.Parts.{parts}
use Rattle.elab_points.proofs.Filters.{parts_passing}
use Rattle.elab_points.proofs.made.distributed_sets.Goals as goal

pub returns : goal.returns
returns c = parts_passing c.args.term.now (parts (written c.args.numbers.now) c.args.bins) c.in_ok-sets.sets.items c.in_ok-left.left.items c.in_ok-sets.ensures c.in_ok-left.ensures
