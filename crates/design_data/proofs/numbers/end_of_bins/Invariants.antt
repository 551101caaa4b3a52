use Rattle.std.proofs.Common.{take, Some, ◌≤◌}
use Rattle.design_data.specs.Tested.{EndsAt, most_end}
use Rattle.design_data.specs.Bins.{items_from}
use Rattle.design_data.proofs.numbers.end_of_bins.Given as goal

abbrev pub invariant-loop-group : goal.invariant-loop-group
invariant-loop-group l = record { ends : EndsAt 0 (items_from l.instances 0 (take l.group l.groups)) (Some l.end); few : l.end ≤ most_end }
