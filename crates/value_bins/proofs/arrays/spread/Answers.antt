use Rattle.std.proofs.Common.{arith, ◌∙◌, ap}
use Rattle.value_bins.specs.Listed.{spread_sets}
use Rattle.value_bins.proofs.Taking.{spread_together}
use Rattle.value_bins.proofs.arrays.spread.Goals as goal

pub returns-clause-together : goal.returns-clause-together
returns-clause-together c = spread_together c.args.elems.now c.in_ok-sets.sets.items c.args.n (omega arith) (c.in_ok-sets.ensures ∙ ap (λ rs. spread_sets rs c.args.n) c.as_slice.ensures)
