use Rattle.std.proofs.Common.{take, Some, ◌≤◌}
use Rattle.design_data.specs.Tested.{EndsAt, most_end}
use Rattle.design_data.proofs.numbers.end_of_items.Given as goal

abbrev pub invariant-loop-item : goal.invariant-loop-item
invariant-loop-item l = record { ends : EndsAt l.first (take l.item-index l.items) (Some l.end); few : l.end ≤ most_end }
