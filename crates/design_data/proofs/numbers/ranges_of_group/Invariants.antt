use Rattle.std.proofs.Common.{◌≡◌, take}
use Rattle.design_data.proofs.Sums.{cut}
use Rattle.design_data.specs.Limits.{ranges_in}
use Rattle.design_data.specs.Bins.{items_of_group}
use Rattle.design_data.proofs.numbers.ranges_of_group.Given as goal

abbrev pub invariant-loop-inst : goal.invariant-loop-inst
invariant-loop-inst l = l.sum ≡ cut (ranges_in (items_of_group (take l.inst-index l.instances) l.group))
