use Rattle.std.proofs.Common.{◌≡◌, ◌++◌, map, drop}
use Rattle.wildcard_bins.specs.Halves.{moved}
use Rattle.wildcard_bins.proofs.ranges.add_moved.Given as goal

abbrev pub invariant-loop-range : goal.invariant-loop-range
invariant-loop-range l = l.out.items ++ map (moved l.step) (drop l.range-index l.ranges) ≡ l.initial.out.items ++ map (moved l.step) l.ranges
