use Rattle.std.proofs.Common.{◌≡◌, map, take, slice_get}
use Rattle.cross_holes.specs.Projected.{axis_of}
use Rattle.cross_holes.proofs.axes.axes_at.Given as goal

abbrev pub invariant-loop-index : goal.invariant-loop-index
invariant-loop-index l = l.axes ≡ map (λ index. axis_of (slice_get l.items index)) (take l.index-index l.indexes)
