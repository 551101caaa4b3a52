use Rattle.std.proofs.Common.{◌≡◌, take}
use Rattle.design_data.proofs.Sums.{cut}
use Rattle.design_data.specs.Bins.{items_in}
use Rattle.design_data.proofs.numbers.count_items.Given as goal

abbrev pub invariant-loop-inst : goal.invariant-loop-inst
invariant-loop-inst l = l.sum ≡ cut (items_in (take l.inst-index l.instances))
