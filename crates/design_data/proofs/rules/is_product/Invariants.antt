use Rattle.std.proofs.Common.{take}
use Rattle.design_data.specs.Crosses.{IsProduct}
use Rattle.design_data.proofs.rules.is_product.Given as goal

abbrev pub invariant-loop-index : goal.invariant-loop-index
invariant-loop-index l = IsProduct (take l.index l.sizes) (take l.index l.members)
