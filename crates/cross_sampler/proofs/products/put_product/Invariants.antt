use Rattle.std.proofs.Common.{◌≡◌, ◌++◌, drop}
use Rattle.cross_sampler.specs.Numbers.{product_by}
use Rattle.cross_sampler.proofs.products.put_product.Given as goal

abbrev pub invariant-loop-weight : goal.invariant-loop-weight
invariant-loop-weight l = l.product.items ++ product_by (drop l.weight-index l.weights) l.left ≡ product_by l.weights l.number
