use Rattle.std.proofs.Common.{◌≡◌}
use Rattle.elab_base.specs.Gives.{each}
use Rattle.elab_members.specs.Crosses.{placed, axis_placed}
use Rattle.elab_base.proofs.Folds.{Left}
use Rattle.elab_members.proofs.crosses.place_axes.Given as goal

abbrev pub invariant-loop-axis : goal.invariant-loop-axis
invariant-loop-axis l = Left (λ k. axis_placed l.initial.outside l.inside l.at) l.axis-index l.points (placed l.items l.axes) (each (axis_placed l.initial.outside l.inside l.at) l.points (placed l.initial.items l.initial.axes)) × (l.outside ≡ l.initial.outside)
