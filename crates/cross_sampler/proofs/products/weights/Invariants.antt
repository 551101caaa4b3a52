use Rattle.std.proofs.Common.{◌≡◌, ◌++◌, drop}
use Rattle.cross_select.specs.Products.{product_of}
use Rattle.cross_sampler.specs.Numbers.{weights_of}
use Rattle.cross_sampler.proofs.products.weights.Given as goal

abbrev pub invariant-loop-size : goal.invariant-loop-size
invariant-loop-size l = record {
  left : l.left ≡ product_of (drop l.size-index l.sizes);
  weights : l.weights ++ weights_of (drop l.size-index l.sizes) ≡ weights_of l.sizes;
}
