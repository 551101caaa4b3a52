use Rattle.std.proofs.Common.{◌≡◌}
use Rattle.elab_bins.specs.Left.{bins_left}
use Rattle.elab_points.proofs.left.bins_left.Given as goal

abbrev pub invariant-loop-made : goal.invariant-loop-made
invariant-loop-made l = l.kept ≡ bins_left l.all l.illegal l.yielded
