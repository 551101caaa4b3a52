use Rattle.std.proofs.Common.{◌≡◌, [], ◌∷◌, drop}
use Rattle.cross_select.specs.Products.{product_of}
use Rattle.cross_sampler.specs.Numbers.{numbers_of, hits_of, AllFit}
use Rattle.cross_sampler.proofs.numbers.one_number.Given as goal

abbrev pub invariant-loop-k : goal.invariant-loop-k
invariant-loop-k l = record {
  numbers : numbers_of (l.number ∷ []) (drop l.k l.sizes) (drop l.k (hits_of l.rows l.axes)) ≡ numbers_of (0 ∷ []) l.sizes (hits_of l.rows l.axes);
  fit : AllFit (product_of l.sizes) (drop l.k l.sizes) (l.number ∷ []);
}
