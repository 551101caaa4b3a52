use Rattle.std.proofs.Common.{◌≡◌, map}
use Rattle.elab_transitions.specs.Bins.{list_bin}
use Rattle.elab_transitions.proofs.bins.list_bins.Given as goal

abbrev pub invariant-loop-list : goal.invariant-loop-list
invariant-loop-list l = l.bins ≡ map (list_bin l.decl l.declared l.guard) l.yielded
