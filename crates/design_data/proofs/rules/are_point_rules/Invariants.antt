use Rattle.std.proofs.Common.{take}
use Rattle.design_data.specs.Tested.{ArePointRules}
use Rattle.design_data.proofs.rules.are_point_rules.Given as goal

abbrev pub invariant-loop-bin : goal.invariant-loop-bin
invariant-loop-bin l = ArePointRules l.item (take l.bin-index l.bins)
