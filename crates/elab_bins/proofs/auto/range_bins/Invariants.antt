use Rattle.std.proofs.Common.{◌≡◌, map, take}
use Rattle.elab_bins.specs.Automatic.{auto_head, auto_bin}
use Rattle.elab_bins.proofs.auto.range_bins.Given as goal

abbrev pub invariant-loop-range : goal.invariant-loop-range
invariant-loop-range l = l.bins.items ≡ map (auto_bin (auto_head l.at)) (take l.range-index l.ranges)
