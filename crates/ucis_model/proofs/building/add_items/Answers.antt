use Rattle.std.proofs.Common.{ap, length}
use Rattle.ucis_model.proofs.Steps.{more_items, more_counted, still_item}
use Rattle.ucis_model.proofs.building.add_items.Goals as goal

pub loop-found-preserved : goal.loop-found-preserved
loop-found-preserved c =
    let inv = c.loop-found.invariant in
    let bins = ap length c.as_slice.ensures in (
      more_items _ _ _ _ _ _ _ _ _ c.loop-found-test.true c.found-item.is c.in_ok-add_item.ensures bins inv.0,
      more_counted (λ item. length item.bins) _ _ _ _ _ _ c.loop-found-test.true c.found-item.is bins inv.1,
      still_item _ _ _ _ _ c.in_ok-add_item.ensures inv.2,
    )
