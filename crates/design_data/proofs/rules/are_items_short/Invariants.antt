use Rattle.std.proofs.Common.{take}
use Rattle.design_data.specs.Tested.{AreItemsShort}
use Rattle.design_data.proofs.rules.are_items_short.Given as goal

abbrev pub invariant-loop-item : goal.invariant-loop-item
invariant-loop-item l = AreItemsShort (take l.item-index l.items)
