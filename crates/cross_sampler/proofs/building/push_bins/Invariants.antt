use Rattle.std.proofs.Common.{◌≡◌, ◌++◌}
use Rattle.cross_sampler.specs.Plans.{bins_with}
use Rattle.cross_sampler.proofs.building.push_bins.Given as goal

abbrev pub invariant-loop-bin : goal.invariant-loop-bin
invariant-loop-bin l = l.out.items ≡ l.initial.out.items ++ bins_with l.bins l.product l.bin
