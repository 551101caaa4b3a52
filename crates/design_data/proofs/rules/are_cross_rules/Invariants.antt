use Rattle.std.proofs.Common.{take}
use Rattle.design_data.specs.Tested.{AreCrossRules}
use Rattle.design_data.proofs.rules.are_cross_rules.Given as goal

abbrev pub invariant-loop-bin : goal.invariant-loop-bin
invariant-loop-bin l = AreCrossRules l.sizes l.bins (take l.bin-index l.bins)
