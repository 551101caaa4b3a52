use Rattle.std.proofs.Common.{◌≡◌, take}
use Rattle.design_data.specs.Bins.{sizes_of}
use Rattle.design_data.proofs.crosses.sizes.Given as goal

abbrev pub invariant-loop-axis : goal.invariant-loop-axis
invariant-loop-axis l = l.sizes ≡ sizes_of l.items (take l.axis-index l.axes)
