use Rattle.std.proofs.Common.{◌≡◌, ◌+◌, ◌<◌, drop, length}
use Rattle.ucis_model.specs.Nodes.{bins_of, own_of, with_instances}
use Rattle.ucis_model.proofs.building.add_instances.Given as goal

abbrev pub invariant-loop-inst : goal.invariant-loop-inst
invariant-loop-inst l =
    (with_instances l.parent l.next (own_of (drop l.inst-index l.instances) l.group) l.nodes ≡ with_instances l.parent l.first (own_of l.instances l.group) l.initial.nodes)
    × (l.next + bins_of (own_of (drop l.inst-index l.instances) l.group) ≡ l.first + bins_of (own_of l.instances l.group))
    × (l.parent < length l.nodes)
