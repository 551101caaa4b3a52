use Rattle.std.proofs.Common.{◌≡◌}
use Rattle.elab_bins.specs.Transitions.{transitions_left}
use Rattle.elab_bins.proofs.transitions.transitions_left.Given as goal

abbrev pub invariant-loop-made : goal.invariant-loop-made
invariant-loop-made l = l.left ≡ transitions_left l.decls l.removers.0 l.removers.1 l.yielded
