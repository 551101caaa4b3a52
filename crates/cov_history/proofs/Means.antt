-- Parts and means are within the whole, and rise with what they are made of.
use Rattle.std.proofs.Common.{◌≡◌, ℕ, zero, suc, ◌+◌, ◌*◌, ◌<◌, ◌≤◌, List, [], ◌∷◌, map, false, refl, sym, ap, ◌∙◌, arith}
use Rattle.std.specs.Prelude.{◌/◌, ◌==◌, if◌then◌else◌}
use Rattle.std.proofs.Math.Nat.{div-mul-le_self, div-le_of_le-mul, mul-le-mul_left}
use Rattle.std.proofs.lemmas.Nat.{le-div}
use Rattle.std.proofs.lemmas.Bool.Decides.{nat_tests}
use Rattle.std.proofs.lemmas.List.Sums.{sum_by-cons}
use Rattle.percent.specs.Millionths.{whole, full, mean, weights, weighted_sum}

pub div_rises : (a b k : ℕ) → 0 < k → a ≤ b → a / k ≤ b / k
div_rises a b k some le = le-div (a / k) b k some (omega (arith, div-mul-le_self a k, le))

not_zero : (n : ℕ) → (suc n == 0) ≡ false
not_zero n = grind (arith, nat_tests)

pub full_within : (covered bins : ℕ) → covered ≤ bins → full covered bins ≤ whole
full_within covered zero le = omega arith
full_within covered (suc b) le = rw (not_zero b) (div-le_of_le-mul (suc b) (omega (arith, le)))

pub full_rises : (covered more bins : ℕ) → covered ≤ more → full covered bins ≤ full more bins
full_rises covered more zero le = omega arith
full_rises covered more (suc b) le = rw (not_zero b) (div_rises (whole * covered) (whole * more) (suc b) (omega arith) (omega (arith, le)))

abbrev mean_by : (sum weight : ℕ) → ℕ
mean_by sum weight = if weight == 0 then whole else sum / weight

mean_by_within : (sum weight : ℕ) → sum ≤ weight * whole → mean_by sum weight ≤ whole
mean_by_within sum zero le = omega arith
mean_by_within sum (suc w) le = rw (not_zero w) (div-le_of_le-mul (suc w) le)

mean_by_rises : (sum more weight : ℕ) → sum ≤ more → mean_by sum weight ≤ mean_by more weight
mean_by_rises sum more zero le = omega arith
mean_by_rises sum more (suc w) le = rw (not_zero w) (div_rises sum more (suc w) (omega arith) le)

module _ {X : Type 0} (w : X → ℕ) where
  abbrev pub pairs : (X → ℕ) → List X → List (ℕ × ℕ)
  pairs f xs = map (λ x. (w x, f x)) xs

  module _ (f : X → ℕ) (fit : (x : X) → f x ≤ whole) where
    sum_within : (xs : List X) → weighted_sum (pairs f xs) ≤ weights (pairs f xs) * whole
    sum_within [] = omega arith
    sum_within (x ∷ xs) =
        let s = sum_by-cons (λ (p : ℕ × ℕ). p.0 * p.1) (w x, f x) (pairs f xs) in
        let v = sum_by-cons (λ (p : ℕ × ℕ). p.0) (w x, f x) (pairs f xs) in
        let m = mul-le-mul_left (w x) (fit x) in
        let rest = sum_within xs in
        omega (arith, s, v, m, rest)

    pub mean_within : (xs : List X) → mean (pairs f xs) ≤ whole
    mean_within xs = mean_by_within (weighted_sum (pairs f xs)) (weights (pairs f xs)) (sum_within xs)

  module _ (f g : X → ℕ) (rises : (x : X) → f x ≤ g x) where
    same_weights : (xs : List X) → weights (pairs f xs) ≡ weights (pairs g xs)
    same_weights [] = refl
    same_weights (x ∷ xs) = sum_by-cons (λ (p : ℕ × ℕ). p.0) (w x, f x) (pairs f xs) ∙ ap (λ n. w x + n) (same_weights xs) ∙ sym (sum_by-cons (λ (p : ℕ × ℕ). p.0) (w x, g x) (pairs g xs))

    sum_rises : (xs : List X) → weighted_sum (pairs f xs) ≤ weighted_sum (pairs g xs)
    sum_rises [] = omega arith
    sum_rises (x ∷ xs) =
        let s = sum_by-cons (λ (p : ℕ × ℕ). p.0 * p.1) (w x, f x) (pairs f xs) in
        let t = sum_by-cons (λ (p : ℕ × ℕ). p.0 * p.1) (w x, g x) (pairs g xs) in
        let m = mul-le-mul_left (w x) (rises x) in
        let rest = sum_rises xs in
        omega (arith, s, t, m, rest)

    pub mean_rises : (xs : List X) → mean (pairs f xs) ≤ mean (pairs g xs)
    mean_rises xs =
        let le = mean_by_rises (weighted_sum (pairs f xs)) (weighted_sum (pairs g xs)) (weights (pairs f xs)) (sum_rises xs) in
        let e = ap (mean_by (weighted_sum (pairs g xs))) (same_weights xs) in
        omega (arith, le, e)
