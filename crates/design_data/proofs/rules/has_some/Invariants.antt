use Rattle.std.proofs.Common.{◌≡◌, take, false}
use Rattle.std.specs.List.{list_any}
use Rattle.design_data.specs.Crosses.{has}
use Rattle.design_data.proofs.rules.has_some.Given as goal

abbrev pub invariant-loop-product : goal.invariant-loop-product
invariant-loop-product l = list_any (has l.bins l.kind l.rule) (take l.product-index l.products) ≡ false
