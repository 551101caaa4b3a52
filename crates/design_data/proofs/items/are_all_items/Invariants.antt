use Rattle.std.proofs.Common.{take}
use Rattle.design_data.specs.Tested.{AreItems}
use Rattle.design_data.proofs.items.are_all_items.Given as goal

abbrev pub invariant-loop-item : goal.invariant-loop-item
invariant-loop-item l = AreItems l.items (take l.item-index l.items)
