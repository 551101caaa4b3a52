-- Bits of one word.
use Rattle.std.proofs.Common.{◌≡◌, ℕ, zero, suc, ◌+◌, ◌-◌, ◌*◌, ◌/◌, ◌%◌, ◌^◌, ◌<◌, ◌≤◌, ◌&&◌, ◌||◌, refl, sym, ap, ◌∙◌, arith, inl, inr, false, leb, ltb}
use Rattle.std.specs.Prelude.{nat_eq, eqb, not, max, min, bit_or, bit_and}
use Rattle.std.specs.Int.{bit_at, w64}
use Rattle.std.proofs.lemmas.Bool.{cases_lt, lt-ltb, le-ltb, le-leb, lt-leb}
use Rattle.std.proofs.lemmas.Nat.{shr-shr, shr_split, pow_pos}
use Rattle.std.proofs.lemmas.Nat.Bits.{bit_at-lt, bit_at-zero, bit_at_or, bit_at_and, bit_at_above, bit_at_cat_low, bit_at_cat_high, bit_at_not, bit_at_ones, bit_at_ones_above, bit_at_mask_inside, bit_at_mask_below, ones_shl, ones_shr}
use Rattle.product_bits.specs.Marks.{has_bit}

or-one : (x y : ℕ) → x < 2 → y < 2 → nat_eq (max x y) 1 ≡ (nat_eq x 1 || nat_eq y 1)
or-one zero zero h g = refl
or-one zero (suc zero) h g = refl
or-one (suc zero) zero h g = refl
or-one (suc zero) (suc zero) h g = refl
or-one zero (suc (suc y)) h g = absurd (omega (arith, g))
or-one (suc zero) (suc (suc y)) h g = absurd (omega (arith, g))
or-one (suc (suc x)) y h g = absurd (omega (arith, h))

and-one : (x y : ℕ) → x < 2 → y < 2 → nat_eq (min x y) 1 ≡ (nat_eq x 1 && nat_eq y 1)
and-one zero zero h g = refl
and-one zero (suc zero) h g = refl
and-one (suc zero) zero h g = refl
and-one (suc zero) (suc zero) h g = refl
and-one zero (suc (suc y)) h g = absurd (omega (arith, g))
and-one (suc zero) (suc (suc y)) h g = absurd (omega (arith, g))
and-one (suc (suc x)) y h g = absurd (omega (arith, h))

pub has-or : (a b i : ℕ) → has_bit (bit_or a b) i ≡ (has_bit a i || has_bit b i)
has-or a b i = ap (λ x. nat_eq x 1) (bit_at_or a b i) ∙ or-one (bit_at a i) (bit_at b i) (bit_at-lt a i) (bit_at-lt b i)

pub has-and : (a b i : ℕ) → has_bit (bit_and a b) i ≡ (has_bit a i && has_bit b i)
has-and a b i = ap (λ x. nat_eq x 1) (bit_at_and a b i) ∙ and-one (bit_at a i) (bit_at b i) (bit_at-lt a i) (bit_at-lt b i)

pub has-shr : (n b k : ℕ) → has_bit (n / 2 ^ b) k ≡ has_bit n (b + k)
has-shr n b k = ap (λ x. nat_eq (x % 2) 1) (shr-shr n b k)

pub has-zero : (i : ℕ) → has_bit 0 i ≡ false
has-zero i = ap (λ x. nat_eq x 1) (bit_at-zero i)

has-mod : (n w i : ℕ) → i < w → has_bit (n % 2 ^ w) i ≡ has_bit n i
has-mod n w i lt = ap (λ x. nat_eq x 1) (sym (bit_at_cat_low (n / 2 ^ w) w (n % 2 ^ w) i lt) ∙ ap (λ x. bit_at x i) (shr_split n w))

pub has-above : (n w i : ℕ) → n < 2 ^ w → w ≤ i → has_bit n i ≡ false
has-above n w i small le = ap (λ x. nat_eq x 1) (bit_at_above n w i small le)

pub has-shl : (n b k : ℕ) → b + k < 64 → has_bit (n * 2 ^ b % 2 ^ 64) (b + k) ≡ has_bit n k
has-shl n b k lt =
    let back : b + k - b ≡ k = omega arith in
    let all : n * 2 ^ b + 0 ≡ n * 2 ^ b = omega arith in
    has-mod (n * 2 ^ b) 64 (b + k) lt ∙ ap (λ x. nat_eq x 1)
    (ap (λ x. bit_at x (b + k)) (sym all) ∙ bit_at_cat_high n b 0 (b + k) (pow_pos b) (omega arith) ∙ ap (bit_at n) back)

pub has-shl_below : (n b i : ℕ) → b < 64 → i < b → has_bit (n * 2 ^ b % 2 ^ 64) i ≡ false
has-shl_below n b i small lt =
    let all : n * 2 ^ b + 0 ≡ n * 2 ^ b = omega arith in
    has-mod (n * 2 ^ b) 64 i (omega (arith, small, lt)) ∙ ap (λ x. nat_eq x 1)
    (ap (λ x. bit_at x i) (sym all) ∙ bit_at_cat_low n b 0 i lt ∙ bit_at-zero i)

not-one : (x : ℕ) → x < 2 → eqb (1 - x) 1 ≡ not (eqb x 1)
not-one zero h = refl
not-one (suc zero) h = refl
not-one (suc (suc x)) h = absurd (omega (arith, h))

pub has-not : (n k : ℕ) → n < 2 ^ 64 → k < 64 → has_bit (2 ^ 64 - 1 - n) k ≡ not (has_bit n k)
has-not n k small lt = ap (λ x. eqb x 1) (bit_at_not w64 n k small lt) ∙ not-one (bit_at n k) (bit_at-lt n k)

-- ---- the bits between two

abbrev between : ℕ → ℕ → ℕ
between low high = bit_and ((2 ^ 64 - 1) * 2 ^ low % 2 ^ 64) ((2 ^ 64 - 1) / 2 ^ (64 - high))

module _ (low high bit : ℕ) (under : low ≤ 64) (within : high ≤ 64) where
  both : bit_at (between low high) bit ≡ min (bit_at (2 ^ 64 - 2 ^ low) bit) (bit_at (2 ^ high - 1) bit)
  both =
      let back : 64 - (64 - high) ≡ high = omega arith in
      let left : (2 ^ 64 - 1) * 2 ^ low % 2 ^ 64 ≡ 2 ^ 64 - 2 ^ low = ones_shl 64 low under in
      let right : (2 ^ 64 - 1) / 2 ^ (64 - high) ≡ 2 ^ high - 1 = ones_shr 64 (64 - high) (omega arith) ∙ ap (λ (k : ℕ). 2 ^ k - 1) back in
      bit_at_and ((2 ^ 64 - 1) * 2 ^ low % 2 ^ 64) ((2 ^ 64 - 1) / 2 ^ (64 - high)) bit ∙ (λ i. min (bit_at (left i) bit) (bit_at (right i) bit))

  below_zero : bit < low → bit_at (between low high) bit ≡ 0
  below_zero lt = let nil = bit_at_mask_below low 64 bit lt in omega (arith, both, nil)

  inside_one : low ≤ bit → bit < high → bit_at (between low high) bit ≡ 1
  inside_one le lt = let a = bit_at_mask_inside low 64 bit le (omega arith) in let b = bit_at_ones high bit lt in omega (arith, both, a, b)

  above_zero : high ≤ bit → bit_at (between low high) bit ≡ 0
  above_zero le = let nil = bit_at_ones_above high bit le in omega (arith, both, nil)

decided : (x low high bit : ℕ) → (bit < low → x ≡ 0) → (low ≤ bit → bit < high → x ≡ 1) → (high ≤ bit → x ≡ 0) → nat_eq x 1 ≡ (leb low bit && ltb bit high)
decided x low high bit below inside above = elim (cases_lt bit low) [
  | inl lt ↦ rw (below lt, lt-leb low bit lt) refl
  | inr le ↦ elim (cases_lt bit high) [
    | inl lt ↦ rw (inside le lt, le-leb low bit le, lt-ltb bit high lt) refl
    | inr past ↦ rw (above past, le-leb low bit le, le-ltb bit high past) refl
  ]
]

pub between_bit : (low high bit : ℕ) → low ≤ 64 → high ≤ 64 → has_bit (between low high) bit ≡ (leb low bit && ltb bit high)
between_bit low high bit under within = decided (bit_at (between low high) bit) low high bit (below_zero low high bit under within) (inside_one low high bit under within) (above_zero low high bit under within)
