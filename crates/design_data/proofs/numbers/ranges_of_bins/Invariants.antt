use Rattle.std.proofs.Common.{◌≡◌, take}
use Rattle.design_data.proofs.Sums.{cut}
use Rattle.design_data.specs.Tested.{ranges_of_bins}
use Rattle.design_data.proofs.numbers.ranges_of_bins.Given as goal

abbrev pub invariant-loop-bin : goal.invariant-loop-bin
invariant-loop-bin l = l.sum ≡ cut (ranges_of_bins (take l.bin-index l.bins))
