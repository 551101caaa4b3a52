use Rattle.std.proofs.Common.{◌≡◌, ℕ, ◌-◌, ◌<◌, ◌≤◌, ◌++◌, List, Bool, length, filter, true}
use Rattle.design_data.specs.Crosses.{products}
use Rattle.product_bits.specs.Marks.{is_marked, Marks}
use Rattle.product_bits.proofs.SetLemmas.{left_from}
use Rattle.product_bits.proofs.bits.ProductBits.products.Given as goal

abbrev pub invariant-loop-at : goal.invariant-loop-at
invariant-loop-at l = record {
  few : length l.found ≤ l.most;
  within : l.at ≤ l.count;
  marked : l.at < l.count → is_marked l.words l.at ≡ true;
  found : (meant : List ℕ → Bool) → Marks l.sizes meant l.words → l.found ++ left_from l.sizes meant l.count l.at ≡ filter meant (products l.sizes);
}

abbrev pub decreases-loop-at : goal.decreases-loop-at
decreases-loop-at l = l.count - l.at
