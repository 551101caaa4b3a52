use Rattle.std.proofs.Common.{◌≡◌, ℕ, ◌-◌, ◌<◌, ◌≤◌, ◌&&◌, false}
use Rattle.product_bits.specs.Marks.{is_marked}
use Rattle.product_bits.proofs.words.first_shared.Given as goal

abbrev pub invariant-loop-at : goal.invariant-loop-at
invariant-loop-at l = record {
  low : l.from ≤ l.at;
  high : l.at ≤ l.to;
  before : (n : ℕ) → l.from ≤ n → n < l.at → (is_marked l.words n && is_marked l.others n) ≡ false;
}

abbrev pub decreases-loop-at : goal.decreases-loop-at
decreases-loop-at l = l.to - l.at
