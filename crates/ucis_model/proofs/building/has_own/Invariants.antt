use Rattle.std.proofs.Common.{◌≡◌, drop}
use Rattle.ucis_model.specs.Nodes.{own_of}
use Rattle.ucis_model.proofs.building.has_own.Given as goal

abbrev pub invariant-loop-inst : goal.invariant-loop-inst
invariant-loop-inst l = own_of (drop l.inst-index l.instances) l.group ≡ own_of l.instances l.group
