use Rattle.std.proofs.Common.{◌≡◌, take}
use Rattle.elab_bins.specs.Declarations.{whole_elements}
use Rattle.elab_points.proofs.declared.whole.Given as goal

abbrev pub invariant-loop-range : goal.invariant-loop-range
invariant-loop-range l = l.elements ≡ whole_elements (take l.range-index l.set)
