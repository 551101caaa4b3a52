use Rattle.std.proofs.Common.{◌≡◌, map, take}
use Rattle.elab_bins.specs.Made.{single}
use Rattle.elab_points.proofs.made.single_bins.Given as goal

abbrev pub invariant-loop-value : goal.invariant-loop-value
invariant-loop-value l = l.bins ≡ map (single l.head) (take l.value-index l.values)
