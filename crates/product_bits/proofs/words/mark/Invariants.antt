use Rattle.std.proofs.Common.{◌≡◌, ℕ, ◌-◌, ◌≤◌, ◌||◌, ◌&&◌, leb, ltb}
use Rattle.product_bits.specs.Marks.{is_marked}
use Rattle.product_bits.proofs.words.mark.Given as goal

abbrev pub invariant-loop-at : goal.invariant-loop-at
invariant-loop-at l = record {
  low : l.from ≤ l.at;
  high : l.at ≤ l.to;
  marks : (n : ℕ) → is_marked l.words n ≡ (is_marked l.initial.words n || (leb l.from n && ltb n l.at));
}

abbrev pub decreases-loop-at : goal.decreases-loop-at
decreases-loop-at l = l.to - l.at
