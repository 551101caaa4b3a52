use Rattle.std.proofs.Common.{take}
use Rattle.design_data.specs.Tested.{AreInstances}
use Rattle.design_data.proofs.items.are_instances.Given as goal

abbrev pub invariant-loop-inst : goal.invariant-loop-inst
invariant-loop-inst l = AreInstances l.groups (take l.inst-index l.instances)
