use Rattle.std.proofs.Common.{◌≡◌, ℕ, ◌+◌, ◌<◌, ◌≤◌, false}
use Rattle.trans_auto.specs.Masks.{has_bit}
use Rattle.trans_auto.specs.Layout.{is_marked as is_marked_of}
use Rattle.trans_auto.proofs.marks.mark_item.Given as goal

abbrev pub invariant-loop-k : goal.invariant-loop-k
invariant-loop-k l = record {
  below : (j : ℕ) → j < l.base → has_bit l.mask j ≡ has_bit l.start j;
  here : (j : ℕ) → j < l.k → has_bit l.mask (l.base + j) ≡ is_marked_of l.mark l.repeat l.last j;
  above : (j : ℕ) → l.base + l.k ≤ j → has_bit l.mask j ≡ false;
}
