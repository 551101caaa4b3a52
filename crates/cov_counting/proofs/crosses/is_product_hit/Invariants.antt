use Rattle.std.proofs.Common.{take}
use Rattle.cov_counting.specs.Steps.{SomeProductHit}
use Rattle.cov_counting.proofs.crosses.is_product_hit.Given as goal

abbrev pub invariant-loop-product : goal.invariant-loop-product
invariant-loop-product l = SomeProductHit l.items l.bins l.axes l.bin (take l.product-index l.products) l.samples l.k → ⊥
