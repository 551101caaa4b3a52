use Rattle.std.proofs.Common.{◌≡◌, take}
use Rattle.design_data.specs.Bins.{bins_in}
use Rattle.elab_order.proofs.numbers.count_bins.Given as goal

abbrev pub invariant-loop-item : goal.invariant-loop-item
invariant-loop-item l = l.next ≡ bins_in (take l.item-index l.items)
