use Rattle.std.proofs.Common.{◌≡◌, ◌+◌, ◌<◌, drop, length}
use Rattle.design_data.specs.Bins.{bins_in, items_from, numbered_items}
use Rattle.ucis_model.specs.Nodes.{with_groups}
use Rattle.ucis_model.proofs.building.add_groups.Given as goal

abbrev pub invariant-loop-place : goal.invariant-loop-place
invariant-loop-place l =
    (with_groups l.next l.instances l.place (drop l.place l.groups) l.nodes ≡ with_groups 0 l.instances 0 l.groups l.initial.nodes)
    × (l.next + bins_in (items_from l.instances l.place (drop l.place l.groups)) ≡ bins_in (numbered_items l.groups l.instances))
    × (0 < length l.nodes)
