use Rattle.std.proofs.Common.{take}
use Rattle.std.specs.List.{AllByRecursion}
use Rattle.design_data.specs.Limits.{IsPointIndex}
use Rattle.design_data.proofs.items.are_points.Given as goal

abbrev pub invariant-loop-axis : goal.invariant-loop-axis
invariant-loop-axis l = AllByRecursion (IsPointIndex l.items) (take l.axis-index l.axes)
