use Rattle.std.proofs.Common.{take}
use Rattle.design_data.specs.Tested.{HaveFewBins}
use Rattle.design_data.proofs.items.have_few_bins.Given as goal

abbrev pub invariant-loop-item : goal.invariant-loop-item
invariant-loop-item l = HaveFewBins (take l.item-index l.items)
