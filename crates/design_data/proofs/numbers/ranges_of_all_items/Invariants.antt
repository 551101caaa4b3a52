use Rattle.std.proofs.Common.{◌≡◌, take}
use Rattle.design_data.proofs.Sums.{cut}
use Rattle.design_data.specs.Limits.{ranges_in}
use Rattle.design_data.proofs.numbers.ranges_of_all_items.Given as goal

abbrev pub invariant-loop-item : goal.invariant-loop-item
invariant-loop-item l = l.sum ≡ cut (ranges_in (take l.item-index l.items))
