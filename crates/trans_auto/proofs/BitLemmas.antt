-- Bits under shifts, unions and masks.
use Rattle.std.proofs.Common.{◌≡◌, ℕ, ◌+◌, ◌-◌, ◌*◌, ◌<◌, ◌≤◌, ◌%◌, ◌/◌, ◌^◌, ◌&&◌, ◌||◌, ◌⊎◌, ap, sym, ◌∙◌, refl, arith, inl, inr, true, false, zero, suc}
use Rattle.std.specs.Prelude.{nat_eq, eqb, not, max, min, bit_or, bit_and}
use Rattle.std.specs.Int.{bit_at, w128}
use Rattle.std.proofs.lemmas.Nat.{shr-shr, shr_split, pow_pos}
use Rattle.std.proofs.lemmas.Nat.Bits.{bit_at-lt, bit_at-zero, bit_at_or, bit_at_and, bit_at_above, bit_at_cat_low, bit_at_cat_high, bit_at_not, same_from_bits_below}
use Rattle.std.proofs.lemmas.Bool.{cases_lt}
use Rattle.trans_auto.specs.Masks.{has_bit}
use Rattle.trans_auto.specs.Layout.{bit_before}

or-one : (x y : ℕ) → x < 2 → y < 2 → nat_eq (max x y) 1 ≡ (nat_eq x 1 || nat_eq y 1)
or-one zero zero h g = refl
or-one zero (suc zero) h g = refl
or-one (suc zero) zero h g = refl
or-one (suc zero) (suc zero) h g = refl
or-one zero (suc (suc y)) h g = absurd (omega (arith, g))
or-one (suc zero) (suc (suc y)) h g = absurd (omega (arith, g))
or-one (suc (suc x)) y h g = absurd (omega (arith, h))

and-one : (x y : ℕ) → x < 2 → y < 2 → nat_eq (min x y) 1 ≡ (nat_eq x 1 && nat_eq y 1)
and-one zero zero h g = refl
and-one zero (suc zero) h g = refl
and-one (suc zero) zero h g = refl
and-one (suc zero) (suc zero) h g = refl
and-one zero (suc (suc y)) h g = absurd (omega (arith, g))
and-one (suc zero) (suc (suc y)) h g = absurd (omega (arith, g))
and-one (suc (suc x)) y h g = absurd (omega (arith, h))

pub has-or : (a b i : ℕ) → has_bit (bit_or a b) i ≡ (has_bit a i || has_bit b i)
has-or a b i = ap (λ x. nat_eq x 1) (bit_at_or a b i) ∙ or-one (bit_at a i) (bit_at b i) (bit_at-lt a i) (bit_at-lt b i)

pub has-and : (a b i : ℕ) → has_bit (bit_and a b) i ≡ (has_bit a i && has_bit b i)
has-and a b i = ap (λ x. nat_eq x 1) (bit_at_and a b i) ∙ and-one (bit_at a i) (bit_at b i) (bit_at-lt a i) (bit_at-lt b i)

pub has-shr : (n b k : ℕ) → has_bit (n / 2 ^ b) k ≡ has_bit n (b + k)
has-shr n b k = ap (λ x. nat_eq (x % 2) 1) (shr-shr n b k)

-- a remainder has the bits below, and no others
has-mod : (n w i : ℕ) → i < w → has_bit (n % 2 ^ w) i ≡ has_bit n i
has-mod n w i lt = ap (λ x. nat_eq x 1) (sym (bit_at_cat_low (n / 2 ^ w) w (n % 2 ^ w) i lt) ∙ ap (λ x. bit_at x i) (shr_split n w))

pub has-above : (n w i : ℕ) → n < 2 ^ w → w ≤ i → has_bit n i ≡ false
has-above n w i small le = ap (λ x. nat_eq x 1) (bit_at_above n w i small le)

-- a shift to the left in 128 bits
pub has-shl : (n b k : ℕ) → b + k < 128 → has_bit (n * 2 ^ b % 2 ^ 128) (b + k) ≡ has_bit n k
has-shl n b k lt =
    let back : b + k - b ≡ k = omega arith in
    let all : n * 2 ^ b + 0 ≡ n * 2 ^ b = omega arith in
    has-mod (n * 2 ^ b) 128 (b + k) lt ∙ ap (λ x. nat_eq x 1)
    (ap (λ x. bit_at x (b + k)) (sym all) ∙ bit_at_cat_high n b 0 (b + k) (pow_pos b) (omega arith) ∙ ap (bit_at n) back)

pub has-shl_below : (n b i : ℕ) → b < 128 → i < b → has_bit (n * 2 ^ b % 2 ^ 128) i ≡ false
has-shl_below n b i small lt =
    let all : n * 2 ^ b + 0 ≡ n * 2 ^ b = omega arith in
    has-mod (n * 2 ^ b) 128 i (omega (arith, small, lt)) ∙ ap (λ x. nat_eq x 1)
    (ap (λ x. bit_at x i) (sym all) ∙ bit_at_cat_low n b 0 i lt ∙ bit_at-zero i)

not-one : (x : ℕ) → x < 2 → eqb (1 - x) 1 ≡ not (eqb x 1)
not-one zero h = refl
not-one (suc zero) h = refl
not-one (suc (suc x)) h = absurd (omega (arith, h))

pub has-not : (n k : ℕ) → n < 2 ^ 128 → k < 128 → has_bit (2 ^ 128 - 1 - n) k ≡ not (has_bit n k)
has-not n k small lt = ap (λ x. eqb x 1) (bit_at_not w128 n k small lt) ∙ not-one (bit_at n k) (bit_at-lt n k)

-- a shift by one place
pub has-shifted : (n k : ℕ) → k < 128 → has_bit (n * 2 % 2 ^ 128) k ≡ bit_before n k
has-shifted n zero lt = has-shl_below n 1 0 (omega arith) (omega arith)
has-shifted n (suc k) lt = let up : suc k ≡ 1 + k = omega arith in ap (has_bit (n * 2 % 2 ^ 128)) up ∙ has-shl n 1 k (omega (arith, lt))

-- a number above 0 has a bit
more-none : (n j x : ℕ) → bit_at n j ≡ x → x < 2 → ((k : ℕ) → k < j → bit_at n k ≡ 0) → ((k : ℕ) × (has_bit n k ≡ true)) ⊎ ((k : ℕ) → k < suc j → bit_at n k ≡ 0)
more-none n j zero e h none = inr (λ k lt. elim (cases_lt k j) [
  | inl less ↦ none k less
  | inr ge ↦ let same : k ≡ j = omega (arith, lt, ge) in ap (bit_at n) same ∙ e
])
more-none n j (suc zero) e h none = inl (j, ap (λ x. nat_eq x 1) e)
more-none n j (suc (suc x)) e h none = absurd (omega (arith, h))

bit-or-none : (n j : ℕ) → ((k : ℕ) × (has_bit n k ≡ true)) ⊎ ((k : ℕ) → k < j → bit_at n k ≡ 0)
bit-or-none n zero = inr (λ k lt. absurd (omega (arith, lt)))
bit-or-none n (suc j) = elim (bit-or-none n j) [
  | inl some ↦ inl some
  | inr none ↦ more-none n j (bit_at n j) refl (bit_at-lt n j) none
]

pub some-bit : (n w : ℕ) → n < 2 ^ w → (n ≡ 0 → ⊥) → (k : ℕ) × (has_bit n k ≡ true)
some-bit n w small nonzero = elim (bit-or-none n w) [
  | inl some ↦ some
  | inr none ↦ absurd (nonzero (same_from_bits_below w n 0 small (pow_pos w) (λ i lt. none i lt ∙ sym (bit_at-zero i))))
]

pub no-bit : (k : ℕ) → has_bit 0 k ≡ false
no-bit k = ap (λ x. nat_eq x 1) (bit_at-zero k)
