use Rattle.std.proofs.Common.{◌≡◌, ◌+◌, ◌<◌, drop, length}
use Rattle.design_data.specs.Bins.{bins_in}
use Rattle.ucis_model.specs.Nodes.{with_items}
use Rattle.ucis_model.proofs.building.add_items.Given as goal

abbrev pub invariant-loop-found : goal.invariant-loop-found
invariant-loop-found l =
    (with_items l.parent l.next (drop l.found-index l.items) l.nodes ≡ with_items l.parent l.first l.items l.initial.nodes)
    × (l.next + bins_in (drop l.found-index l.items) ≡ l.first + bins_in l.items)
    × (l.parent < length l.nodes)
