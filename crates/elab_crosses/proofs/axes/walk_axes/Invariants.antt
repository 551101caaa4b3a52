use Rattle.elab_base.specs.Gives.{each}
use Rattle.elab_base.proofs.Folds.{Left}
use Rattle.elab_crosses.specs.Axes.{around, axis_added, no_axes}
use Rattle.elab_crosses.proofs.axes.walk_axes.Given as goal

abbrev pub invariant-loop-name : goal.invariant-loop-name
invariant-loop-name l =
    Left (λ k. axis_added (around l.items l.names l.points l.formals l.design) l.at) l.name-index l.crossed l.named
    (each (axis_added (around l.items l.names l.points l.formals l.design) l.at) l.crossed no_axes)
