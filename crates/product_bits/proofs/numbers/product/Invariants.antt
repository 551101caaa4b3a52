use Rattle.std.proofs.Common.{◌≡◌, ◌≤◌, ◌++◌, drop}
use Rattle.cross_select.specs.Products.{product_of}
use Rattle.product_bits.specs.Numbers.{product_at}
use Rattle.product_bits.proofs.numbers.product.Given as goal

abbrev pub invariant-loop-size : goal.invariant-loop-size
invariant-loop-size l = record {
  some : 1 ≤ l.stride;
  stride : l.stride ≡ product_of (drop l.size-index l.sizes);
  product : l.product ++ product_at (drop l.size-index l.sizes) l.number ≡ product_at l.sizes l.number;
}
