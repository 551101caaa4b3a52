use Rattle.elab_order.proofs.Steps.{bins_fit}
use Rattle.elab_order.proofs.numbers.count_bins.Goals as goal

pub behind-next-requires : goal.behind-next-requires
behind-next-requires c = bins_fit _ _ _ c.item-item.result c.loop-item.invariant c.loop-item-test.true c.item-item.is c.requires
