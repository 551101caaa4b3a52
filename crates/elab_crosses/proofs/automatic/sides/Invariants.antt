use Rattle.std.proofs.Common.{◌≡◌, take}
use Rattle.elab_crosses.specs.Removal.{sides}
use Rattle.elab_crosses.proofs.automatic.sides.Given as goal

abbrev pub invariant-loop-axis : goal.invariant-loop-axis
invariant-loop-axis l = l.names ≡ sides l.items (take l.axis-index l.axes)
