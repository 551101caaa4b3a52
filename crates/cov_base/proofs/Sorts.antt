-- Ranges after a sort: in order of their low ends, and with the same numbers.
use Rattle.std.proofs.Common.{◌≡◌, ◌∙◌, ap, refl, sym, subst, ℕ, suc, ◌+◌, ◌<◌, ℤ, ◌≤ℤ◌, ◌<ℤ◌, List, [], ◌∷◌, ◌++◌, length, get_or, arith, Bool, true, false, cond, All, sum_by, IsPermutation, IsSortedBy, nat_lt, int_lt, int_cmp, is_lt}
use Rattle.std.specs.Ordering.{ordering_then}
use Rattle.std.proofs.Common.{Less, Equal, Greater}
use Rattle.std.specs.Prelude.{◌||◌}
use Rattle.std.proofs.lemmas.Grind.{common_steps}
use Rattle.std.proofs.lemmas.Int.{ints}
use Rattle.std.proofs.lemmas.List.Elements.{All-tail}
use Rattle.std.proofs.lemmas.List.Sums.{sum_by-cons}
use Rattle.std.proofs.lemmas.List.Sorted.{sum_by-IsPermutation}
use Rattle.cov_base.specs.Sets.{is_within, covers, EndsBy, least, greatest}
use Rattle.cov_base.specs.Intervals.{IsRange, BeginInOrder}
use Rattle.cov_base.proofs.Merges.{covers-append}

-- a number is covered where more than none of the ranges have it
covers-sum : (v : ℤ) (rs : List (ℤ × ℤ)) → covers rs v ≡ nat_lt 0 (sum_by (λ r. cond (is_within v r) 1 0) rs)
covers-sum v [] = refl
covers-sum v (r ∷ rs) = more (is_within v r) (covers rs v) (sum_by (λ r. cond (is_within v r) 1 0) rs) (covers-sum v rs) ∙ ap (nat_lt 0) (sym (sum_by-cons (λ r. cond (is_within v r) 1 0) r rs))
  where
    more : (t u : Bool) (n : ℕ) → u ≡ nat_lt 0 n → (t || u) ≡ nat_lt 0 (cond t 1 0 + n)
    more true u n e = grind (arith, common_steps, e)
    more false u n e = grind (arith, common_steps, e)

pub covers-permutation : (xs ys : List (ℤ × ℤ)) (v : ℤ) → IsPermutation xs ys → covers ys v ≡ covers xs v
covers-permutation xs ys v p = covers-sum v ys ∙ (ap (nat_lt 0) (sum_by-IsPermutation (λ r. cond (is_within v r) 1 0) xs ys p) ∙ sym (covers-sum v xs))

pub all_end : (rs : List (ℤ × ℤ)) → All IsRange rs → EndsBy greatest rs
all_end [] all = tt
all_end (r ∷ rs) all = ((all 0 r (omega arith)).2, all_end rs (All-tail IsRange r rs all))

-- an order on the low ends
abbrev pub ByLow : (ℤ × ℤ → ℤ × ℤ → Bool) → Type 0
ByLow lt = (x y : ℤ × ℤ) → lt x y ≡ false → y.0 ≤ℤ x.0

abbrev by_both : ℤ × ℤ → ℤ × ℤ → Bool
by_both x y = is_lt (ordering_then (int_cmp x.0 y.0) (int_cmp x.1 y.1))

by_both_by_low : ByLow by_both
by_both_by_low x y e = by (int_lt x.0 y.0) refl e
  where
    by : (t : Bool) → int_lt x.0 y.0 ≡ t → is_lt (ordering_then (cond t Less (cond (int_lt y.0 x.0) Greater Equal)) (int_cmp x.1 y.1)) ≡ false → y.0 ≤ℤ x.0
    by true f e = absurd cc
    by false f e = omega (arith, ints, f)

sorted_from : (lt : ℤ × ℤ → ℤ × ℤ → Bool) (low : ℤ) (rs : List (ℤ × ℤ)) → ByLow lt → IsSortedBy lt rs → All IsRange rs → ((d : ℤ × ℤ) → 0 < length rs → low ≤ℤ (get_or rs 0 d).0) → BeginInOrder low rs
sorted_from lt low [] by up all from = tt
sorted_from lt low (r ∷ rs) by up all from = (
  from r (omega arith),
  (all 0 r (omega arith)).1,
  sorted_from lt r.0 rs by (λ k d le h. subst (λ (m : ℕ). lt (get_or (r ∷ rs) m d) (get_or rs k d) ≡ false) (next k) (up (suc k) d (omega arith) (omega arith))) (All-tail IsRange r rs all) (λ d h. by (get_or rs 0 d) r (up 0 d (omega arith) (omega arith))),
)
  where
    next : (k : ℕ) → suc k + 1 ≡ suc (k + 1)
    next k = omega arith

pub sorted_in_order : (rs : List (ℤ × ℤ)) → IsSortedBy by_both rs → All IsRange rs → BeginInOrder least rs
sorted_in_order rs up all = sorted_from by_both least rs by_both_by_low up all (λ d h. (all 0 d h).0)

-- a range that is kept, and one that stands for no number
pub kept_step : (v : ℤ) (kept ranges rs whole : List (ℤ × ℤ)) (r : ℤ × ℤ) → ranges ≡ r ∷ rs → (covers kept v || covers ranges v) ≡ covers whole v → (covers (kept ++ r ∷ []) v || covers rs v) ≡ covers whole v
kept_step v kept ranges rs whole r at was =
    moved (covers (kept ++ r ∷ []) v) (covers kept v) (is_within v r) (covers rs v) (covers whole v) (covers-append kept (r ∷ []) v) (subst (λ (xs : List (ℤ × ℤ)). (covers kept v || covers xs v) ≡ covers whole v) at was)
  where
    moved : (a b c d e : Bool) → a ≡ (b || (c || false)) → (b || (c || d)) ≡ e → (a || d) ≡ e
    moved a b c d e h k = grind (arith, common_steps, h, k)

pub left_out : (v : ℤ) (kept ranges rs whole : List (ℤ × ℤ)) (r : ℤ × ℤ) → ranges ≡ r ∷ rs → r.1 <ℤ r.0 → (covers kept v || covers ranges v) ≡ covers whole v → (covers kept v || covers rs v) ≡ covers whole v
left_out v kept ranges rs whole r at lt was =
    without (covers kept v) r.0 r.1 (covers rs v) (covers whole v) lt (subst (λ (xs : List (ℤ × ℤ)). (covers kept v || covers xs v) ≡ covers whole v) at was)
  where
    without : (a : Bool) (b c : ℤ) (d e : Bool) → c <ℤ b → (a || (is_within v (b, c) || d)) ≡ e → (a || d) ≡ e
    without a b c d e lt k = grind (arith, common_steps, ints, k)
