use Rattle.std.proofs.Common.{◌≡◌, ◌≤◌, ◌*◌, drop}
use Rattle.cov_ground.specs.Limits.{most_products}
use Rattle.cross_select.specs.Products.{product_of}
use Rattle.cross_select.proofs.products.count_products.Given as goal

abbrev pub invariant-loop-size : goal.invariant-loop-size
invariant-loop-size l = record {
  so_far : l.count * product_of (drop l.size-index l.sizes) ≡ product_of l.sizes;
  few : l.count ≤ most_products;
}
