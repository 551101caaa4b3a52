-- The steps of the search for the interval of a number.
use Rattle.std.proofs.Common.{◌≡◌, ap, refl, subst, ℕ, zero, suc, ◌+◌, ◌-◌, ◌*◌, ◌/◌, ◌^◌, ◌<◌, ◌≤◌, ℤ, pos, negsuc, ◌≤ℤ◌, ◌<ℤ◌, List, length, get_or, arith, Bool, true, false, cond, int_le, FitsSigned, leb}
use Rattle.std.proofs.lemmas.Bool.{leb-true, leb-false}
use Rattle.std.specs.List.Sorted.{IsPartitionPoint}
use Rattle.std.specs.Int.{cast_unsigned, w128}
use Rattle.std.proofs.lemmas.Int.{ints}
use Rattle.std.proofs.lemmas.List.{get_or_default}
use Rattle.cov_base.specs.Intervals.{low_at, Ascends}

-- the sign of a number, as a bit
pub sign_below : (z : ℤ) (n : ℕ) → FitsSigned w128 z → n ≡ cast_unsigned w128 z → z <ℤ pos 0 → n / 2 ^ 127 ≡ 1
sign_below (pos m) n fits e lt = absurd (omega (arith, ints, lt))
sign_below (negsuc m) n fits e lt = omega (arith, ints, fits, e)

pub sign_above : (z : ℤ) (n : ℕ) → FitsSigned w128 z → n ≡ cast_unsigned w128 z → pos 0 ≤ℤ z → n / 2 ^ 127 ≡ 0
sign_above (pos m) n fits e le = omega (arith, ints, fits, e)
sign_above (negsuc m) n fits e le = absurd (omega (arith, ints, le))

-- what a step of the search keeps
pub record Found (xs : List (ℤ × ℤ)) (v : ℤ) (base size : ℕ) : Type 0 where
  pub some : 1 ≤ size
  pub within : base + size ≤ length xs
  pub below : 0 < base → low_at xs base ≤ℤ v
  pub above : (t : ℕ) → base + size ≤ t → t < length xs → v <ℤ low_at xs t

pub halved : (xs : List (ℤ × ℤ)) (v : ℤ) (base size r : ℕ) (x : ℤ × ℤ) → Ascends xs → Found xs v base size → 1 < size → r ≡ cond (int_le (get_or xs (base + size / 2) x).0 v) 1 0 → Found xs v (base + size / 2 * r) (size - size / 2)
halved xs v base size r x up was more e = by (int_le (get_or xs (base + size / 2) x).0 v) refl e
  where
    half_in : base + size / 2 < length xs
    half_in = omega (arith, was.within)

    at : (get_or xs (base + size / 2) x).0 ≡ low_at xs (base + size / 2)
    at = ap (λ (y : ℤ × ℤ). y.0) (get_or_default xs (base + size / 2) x (pos 0, pos 0) half_in)

    by : (t : Bool) → int_le (get_or xs (base + size / 2) x).0 v ≡ t → r ≡ cond t 1 0 → Found xs v (base + size / 2 * r) (size - size / 2)
    by true g h =
        let whole : size / 2 * r ≡ size / 2 = rw h (omega arith) in
        rw whole (record {
          some = omega arith;
          within = omega (arith, was.within);
          below = λ _. subst (λ (z : ℤ). z ≤ℤ v) at (omega (arith, ints, g));
          above = λ t le lt. was.above t (omega (arith, le)) lt;
        })
    by false g h =
        let none : base + size / 2 * r ≡ base = rw h (omega arith) in
        let gt : v <ℤ low_at xs (base + size / 2) = subst (λ (z : ℤ). v <ℤ z) at (omega (arith, ints, g)) in
        rw none (record {
          some = omega arith;
          within = omega (arith, was.within);
          below = was.below;
          above = λ t le lt. let step = up (base + size / 2) t (omega (arith, le)) lt in omega (arith, ints, gt, step);
        })

-- the place before the one at which numbers above k begin
pub record IsLast (xs : List ℕ) (k place : ℕ) : Type 0 where
  pub reached : get_or xs place 0 ≤ k
  pub above : (t : ℕ) → place < t → t < length xs → k < get_or xs t 0

pub point_some : (xs : List ℕ) (k r : ℕ) → 0 < length xs → get_or xs 0 0 ≤ k → IsPartitionPoint (λ y. leb y k ≡ true) (λ y. leb y k ≡ false) xs r → 1 ≤ r
point_some xs k zero some first point = absurd (omega (arith, first, leb-false (get_or xs 0 0) k (point.1 0 0 (omega arith) some)))
point_some xs k (suc r) some first point = omega arith

pub point_is_last : (xs : List ℕ) (k r : ℕ) → 1 ≤ r → r ≤ length xs → IsPartitionPoint (λ y. leb y k ≡ true) (λ y. leb y k ≡ false) xs r → IsLast xs k (r - 1)
point_is_last xs k r some most point = record {
  reached = leb-true (get_or xs (r - 1) 0) k (point.0 (r - 1) 0 (omega arith) (omega arith));
  above = λ t le lt. leb-false (get_or xs t 0) k (point.1 t 0 (omega arith) lt);
}
