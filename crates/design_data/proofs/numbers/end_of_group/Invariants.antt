use Rattle.std.proofs.Common.{take, Some, ◌≤◌}
use Rattle.design_data.specs.Tested.{EndsAt, most_end}
use Rattle.design_data.specs.Bins.{items_of_group}
use Rattle.design_data.proofs.numbers.end_of_group.Given as goal

abbrev pub invariant-loop-inst : goal.invariant-loop-inst
invariant-loop-inst l = record { ends : EndsAt l.first (items_of_group (take l.inst-index l.instances) l.group) (Some l.end); few : l.end ≤ most_end }
