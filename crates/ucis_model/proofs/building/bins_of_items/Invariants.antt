use Rattle.std.proofs.Common.{◌≡◌, ◌+◌, drop}
use Rattle.design_data.specs.Bins.{bins_in}
use Rattle.ucis_model.proofs.building.bins_of_items.Given as goal

abbrev pub invariant-loop-item : goal.invariant-loop-item
invariant-loop-item l = l.bins + bins_in (drop l.item-index l.items) ≡ bins_in l.items
