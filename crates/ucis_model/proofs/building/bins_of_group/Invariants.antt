use Rattle.std.proofs.Common.{◌≡◌, ◌+◌, drop}
use Rattle.ucis_model.specs.Nodes.{bins_of, own_of}
use Rattle.ucis_model.proofs.building.bins_of_group.Given as goal

abbrev pub invariant-loop-inst : goal.invariant-loop-inst
invariant-loop-inst l = l.bins + bins_of (own_of (drop l.inst-index l.instances) l.group) ≡ bins_of (own_of l.instances l.group)
