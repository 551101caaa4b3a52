use Rattle.std.proofs.Common.{◌≡◌, take}
use Rattle.design_data.proofs.Sums.{cut}
use Rattle.design_data.specs.Tested.{ranges_of_items}
use Rattle.design_data.proofs.numbers.ranges_of_items.Given as goal

abbrev pub invariant-loop-item : goal.invariant-loop-item
invariant-loop-item l = l.sum ≡ cut (ranges_of_items (take l.item-index l.items))
