use Rattle.std.proofs.Common.{◌≡◌, take}
use Rattle.design_data.proofs.Sums.{cut}
use Rattle.design_data.specs.Limits.{ranges_in}
use Rattle.design_data.specs.Bins.{items_from}
use Rattle.design_data.proofs.numbers.count_ranges.Given as goal

abbrev pub invariant-loop-group : goal.invariant-loop-group
invariant-loop-group l = l.sum ≡ cut (ranges_in (items_from l.instances 0 (take l.group l.groups)))
