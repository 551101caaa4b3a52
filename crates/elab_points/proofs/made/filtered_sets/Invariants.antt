use Rattle.std.proofs.Common.{◌≡◌, map}
use Rattle.elab_bins.specs.Made.{set_filtered}
use Rattle.elab_points.proofs.made.filtered_sets.Given as goal

abbrev pub invariant-loop-set : goal.invariant-loop-set
invariant-loop-set l = l.left.items ≡ map (set_filtered l.term) l.yielded
