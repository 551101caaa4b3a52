-- Numbers that ascend and stand below a number.
use Rattle.std.proofs.Common.{ℕ, ◌+◌, ◌<◌, ◌≤◌, List, [], ◌∷◌, ◌++◌, arith}
use Rattle.std.proofs.lemmas.List.Elements.{All-push, All-weaker}
use Rattle.std.proofs.lemmas.List.Quantifiers.{all_pairs_push}
use Rattle.word_table.specs.Words.{AscendBelow}

pub ascend_none : (high : ℕ) → AscendBelow high []
ascend_none high = record { ascend = λ i j d lt within. absurd (omega (arith, within)); below = λ k d lt. absurd (omega (arith, lt)) }

pub ascend_below : (low high : ℕ) (numbers : List ℕ) → low ≤ high → AscendBelow low numbers → AscendBelow high numbers
ascend_below low high numbers le h = record {
  ascend = h.ascend;
  below = All-weaker (λ n. n < low) (λ n. n < high) (λ n lt. omega (arith, lt, le)) numbers h.below;
}

-- one more, the number itself
pub ascend_more : (k : ℕ) (numbers : List ℕ) → AscendBelow k numbers → AscendBelow (k + 1) (numbers ++ k ∷ [])
ascend_more k numbers h = record {
  ascend = all_pairs_push (λ a b. a < b) numbers k h.ascend (λ j d lt. h.below j d lt);
  below = All-push (λ n. n < k + 1) numbers k (ascend_below k (k + 1) numbers (omega arith) h).below (omega arith);
}
