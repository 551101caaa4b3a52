-- Machine words as numbers modulo 2 to a width.
use Rattle.std.proofs.Common.{◌≡◌, ℕ, zero, suc, ◌+◌, ◌-◌, ◌*◌, ◌/◌, ◌%◌, ◌^◌, ◌<◌, ◌≤◌, ℤ, pos, negsuc, neg_ℤ, ◌*ℤ◌, ◌<ℤ◌, ◌≤ℤ◌, Bool, true, false, refl, sym, ap, ◌∙◌, subst, arith, bit_and, of_z, to_z, FitsSigned, add-zero}
use mir.Syntax.{w128}
use Rattle.std.proofs.Math.Facts.{sfits_to_z}
use Rattle.std.proofs.lemmas.Nat.{and_mask, pow-add}
use Rattle.std.proofs.Math.Pow.{mod-mod-pow, low, pow_pos}
use Rattle.std.proofs.Math.Nat.{pow-le-pow_right, div-eq_of_lt}
use Rattle.std.proofs.lemmas.Int.{ints, of_z-to_z}
use Rattle.std.proofs.lemmas.Bool.Decides.{nat_tests}
use Rattle.std.specs.Int.{int_shr, int_wrap}
use Rattle.cov_base.specs.Sets.{IsInt}
use Rattle.bin_spec.specs.Types.{number_of}
use Rattle.const_eval.specs.Values.{bits_of, cut}

complement : (P q r d : ℕ) → r < P → (q + 1 + d) * P - suc (P * q + r) ≡ d * P + (P - 1 - r)
complement P q r d lt = grind arith

quotient_below : (P J n : ℕ) → n < J * P → n / P < J
quotient_below P J n lt = grind arith

-- the low bits of what is left of a power of 2
pub complement_mod : (j w n : ℕ) → n < 2 ^ (j + w) → (2 ^ (j + w) - suc n) % 2 ^ w ≡ 2 ^ w - 1 - n % 2 ^ w
complement_mod j w n lt = split (2 ^ w) (2 ^ j) (pow_pos w) (pow-add 2 j w) refl
  where
    split : (P J : ℕ) → 0 < P → 2 ^ (j + w) ≡ J * P → P ≡ 2 ^ w → (2 ^ (j + w) - suc n) % 2 ^ w ≡ 2 ^ w - 1 - n % 2 ^ w
    split P J above e is =
        let q : n / P < J = quotient_below P J n (subst (λ k. n < k) e lt) in
        let r : n % P < P = omega arith in
        let n_is : P * (n / P) + n % P ≡ n = omega arith in
        let J_is : J ≡ n / P + 1 + (J - 1 - n / P) = omega arith in
        let apart : J * P - suc (P * (n / P) + n % P) ≡ (J - 1 - n / P) * P + (P - 1 - n % P) = ap (λ k. k * P - suc (P * (n / P) + n % P)) J_is ∙ complement P (n / P) (n % P) (J - 1 - n / P) r in
        let all : 2 ^ (j + w) - suc n ≡ (J - 1 - n / P) * P + (P - 1 - n % P) = ap (λ k. k - suc n) e ∙ ap (λ k. J * P - suc k) (sym n_is) ∙ apart in
        ap (λ k. k % 2 ^ w) all ∙ ap (λ k. ((J - 1 - n / P) * k + (P - 1 - n % P)) % 2 ^ w) is ∙ low (J - 1 - n / P) w (subst (λ k. P - 1 - n % P < k) is (omega arith)) ∙ ap (λ k. k - 1 - n % k) is

pub mod_of_z : (w : ℕ) (z : ℤ) → w ≤ 64 → FitsSigned w128 z → of_z w128 z % 2 ^ w ≡ bits_of w z
mod_of_z w (pos n) le fits = refl
mod_of_z w (negsuc n) le fits =
    let up : (128 - w) + w ≡ 128 = omega arith in
    let below : n < 2 ^ ((128 - w) + w) = subst (λ k. n < 2 ^ k) (sym up) (omega (arith, fits.sfits)) in
    ap (λ k. (2 ^ k - suc n) % 2 ^ w) (sym up) ∙ complement_mod (128 - w) w n below

pub low_word : (w n m : ℕ) → w ≤ 64 → m ≡ 2 ^ w - 1 → bit_and (bit_and n 18446744073709551615) m ≡ n % 2 ^ w
low_word w n m most is =
    let up : (64 - w) + w ≡ 64 = omega arith in
    ap (λ k. bit_and (bit_and n 18446744073709551615) k) is ∙ and_mask (bit_and n 18446744073709551615) w ∙ ap (λ k. k % 2 ^ w) (and_mask n 64) ∙ ap (λ k. n % 2 ^ k % 2 ^ w) (sym up) ∙ mod-mod-pow n (64 - w) w

-- ---- shifts beyond a word

pub far : (n k : ℕ) → n < 2 ^ 64 → 64 ≤ k → n / 2 ^ k ≡ 0
far n k lt le = let beyond : 2 ^ 64 ≤ 2 ^ k = pow-le-pow_right (omega arith) le in div-eq_of_lt (omega arith)

pub far_below : (x : ℤ) (k : ℕ) → IsInt x → x <ℤ pos 0 → 64 ≤ k → negsuc 0 ≡ int_shr x k
far_below (pos n) k is lt le = absurd (omega (arith, ints))
far_below (negsuc n) k is lt le = ap negsuc (sym (far n k (omega (arith, ints)) le))

pub far_above : (x : ℤ) (k : ℕ) → IsInt x → pos 0 ≤ℤ x → 64 ≤ k → pos 0 ≡ int_shr x k
far_above (pos n) k is lt le = ap pos (sym (far n k (omega (arith, ints)) le))
far_above (negsuc n) k is lt le = absurd (omega (arith, ints))

-- ---- products

-- what is left of a number that is cut to a longer word is left of the number
bits_of_word : (w m : ℕ) → w ≤ 64 → m < 2 ^ 128 → bits_of w (to_z w128 m) ≡ m % 2 ^ w
bits_of_word w m le lt = sym (mod_of_z w (to_z w128 m) le (sfits_to_z (record { fits = lt }))) ∙ ap (λ k. k % 2 ^ w) (of_z-to_z w128 m lt)

shorter : (w n : ℕ) → w ≤ 64 → n % 2 ^ 128 % 2 ^ w ≡ n % 2 ^ w
shorter w n le = let up : (128 - w) + w ≡ 128 = omega arith in ap (λ k. n % 2 ^ k % 2 ^ w) (sym up) ∙ mod-mod-pow n (128 - w) w

complement_word : (w n : ℕ) → w ≤ 64 → n < 2 ^ 128 → (2 ^ 128 - suc n) % 2 ^ w ≡ 2 ^ w - 1 - n % 2 ^ w
complement_word w n le lt =
    let up : (128 - w) + w ≡ 128 = omega arith in
    ap (λ k. (2 ^ k - suc n) % 2 ^ w) (sym up) ∙ complement_mod (128 - w) w n (subst (λ k. n < 2 ^ k) (sym up) lt)

pub bits_of_wrapped : (w : ℕ) (z : ℤ) → w ≤ 64 → bits_of w (int_wrap w128 z) ≡ bits_of w z
unfolding int_wrap
bits_of_wrapped w (pos n) le = bits_of_word w (n % 2 ^ 128) le (omega arith) ∙ shorter w n le
bits_of_wrapped w (negsuc n) le =
    let m : ℕ = n % 2 ^ 128 in
    let is : 2 ^ 128 - 1 - m ≡ 2 ^ 128 - suc m = omega arith in
    ap (λ k. bits_of w (to_z w128 k)) is ∙ bits_of_word w (2 ^ 128 - suc m) le (omega arith) ∙ complement_word w m le (omega arith) ∙ ap (λ k. 2 ^ w - 1 - k) (shorter w n le)

pub cut_wrapped : (w : ℕ) (signed : Bool) (z : ℤ) → w ≤ 64 → cut w signed (int_wrap w128 z) ≡ cut w signed z
unfolding cut
cut_wrapped w signed z le = ap (number_of w signed) (bits_of_wrapped w z le)

read_zero : (w : ℕ) (signed : Bool) → number_of w signed 0 ≡ pos 0
read_zero w false = refl
read_zero w true = let above : 0 < 2 ^ w = pow_pos w in grind (arith, nat_tests)

multiple : (w k n : ℕ) → w ≤ k → n * 2 ^ k ≡ (n * 2 ^ (k - w)) * 2 ^ w
multiple w k n le =
    let up : (k - w) + w ≡ k = omega arith in
    let e : 2 ^ k ≡ 2 ^ (k - w) * 2 ^ w = ap (λ m. 2 ^ m) (sym up) ∙ pow-add 2 (k - w) w in
    ap (λ m. n * m) e ∙ regroup n (2 ^ (k - w)) (2 ^ w)
  where
    regroup : (a b c : ℕ) → a * (b * c) ≡ (a * b) * c
    regroup a b c = grind arith

multiple_left : (w k n : ℕ) → w ≤ k → (n * 2 ^ k) % 2 ^ w ≡ 0
multiple_left w k n le = ap (λ m. m % 2 ^ w) (multiple w k n le ∙ sym (add-zero (n * 2 ^ (k - w) * 2 ^ w))) ∙ low (n * 2 ^ (k - w)) w (pow_pos w)

-- one below a multiple
below_multiple : (w k n p : ℕ) → w ≤ k → suc p ≡ suc n * 2 ^ k → 2 ^ w - 1 - p % 2 ^ w ≡ 0
below_multiple w k n p le e =
    let P : ℕ = 2 ^ w in
    let C : ℕ = suc n * 2 ^ (k - w) in
    let above : 0 < 2 ^ w = pow_pos w in
    let is : p ≡ (suc n * 2 ^ (k - w) - 1) * 2 ^ w + (2 ^ w - 1) = one_less (suc n * 2 ^ (k - w)) (2 ^ w) p (e ∙ multiple w k (suc n) le) in
    let rest : p % 2 ^ w ≡ 2 ^ w - 1 = ap (λ m. m % 2 ^ w) is ∙ low (suc n * 2 ^ (k - w) - 1) w (omega arith) in
    omega arith
  where
    one_less : (C P p : ℕ) → suc p ≡ C * P → p ≡ (C - 1) * P + (P - 1)
    one_less zero P p e = absurd (omega arith)
    one_less (suc c) zero p e = absurd (omega arith)
    one_less (suc c) (suc q) p e = grind arith

negative : (w m p : ℕ) → suc p ≡ m → bits_of w (neg_ℤ (pos m)) ≡ 2 ^ w - 1 - p % 2 ^ w
negative w m p e = subst (λ k. bits_of w (neg_ℤ (pos k)) ≡ 2 ^ w - 1 - p % 2 ^ w) e refl

bits_left : (w k : ℕ) (x : ℤ) → w ≤ k → bits_of w (x *ℤ pos (2 ^ k)) ≡ 0
bits_left w k (pos n) le = multiple_left w k n le
bits_left w k (negsuc n) le =
    let above : 0 < 2 ^ k = pow_pos k in
    let e : suc (suc n * 2 ^ k - 1) ≡ suc n * 2 ^ k = positive n (2 ^ k) above in
    negative w (suc n * 2 ^ k) (suc n * 2 ^ k - 1) e ∙ below_multiple w k n (suc n * 2 ^ k - 1) le e
  where
    positive : (n m : ℕ) → 0 < m → suc (suc n * m - 1) ≡ suc n * m
    positive n m lt = grind arith

pub none_left : (w k : ℕ) (signed : Bool) (x : ℤ) → w ≤ k → pos 0 ≡ cut w signed (x *ℤ pos (2 ^ k))
unfolding cut
none_left w k signed x le = sym (ap (number_of w signed) (bits_left w k x le) ∙ read_zero w signed)

-- ---- bits side by side

pub bits_below : (w : ℕ) (z : ℤ) → bits_of w z < 2 ^ w
bits_below w (pos n) = let above : 0 < 2 ^ w = pow_pos w in omega arith
bits_below w (negsuc n) = let above : 0 < 2 ^ w = pow_pos w in omega arith

pub joined_below : (f l a b : ℕ) → f + l ≤ 64 → a < 2 ^ f → b < 2 ^ l → a * 2 ^ l + b < 2 ^ 64
joined_below f l a b le lt_a lt_b =
    let most : 2 ^ (f + l) ≤ 2 ^ 64 = pow-le-pow_right (omega arith) le in
    let e : 2 ^ (f + l) ≡ 2 ^ f * 2 ^ l = pow-add 2 f l in
    within a b (2 ^ f) (2 ^ l) (2 ^ (f + l)) (2 ^ 64) lt_a lt_b e most
  where
    within : (a b F L S M : ℕ) → a < F → b < L → S ≡ F * L → S ≤ M → a * L + b < M
    within a b F L S M lt_a lt_b e le = grind arith

pub shifted_whole : (a b : ℕ) → a + b < 2 ^ 64 → a % 2 ^ 64 ≡ a
shifted_whole a b lt = grind arith
