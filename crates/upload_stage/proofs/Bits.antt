-- Marks as bits of words.
use Rattle.std.proofs.Common.{◌≡◌, ℕ, zero, suc, ◌+◌, ◌-◌, ◌*◌, ◌/◌, ◌%◌, ◌^◌, ◌<◌, ◌≤◌, min, max, List, length, get_or, set, refl, ap, ◌∙◌, arith, inl, inr, eqb, false}
use Rattle.std.specs.Prelude.{bit_and, bit_or, replicate}
use Rattle.std.specs.Int.{bit_at}
use Rattle.std.proofs.lemmas.Bool.{cases_eq, eqb-false}
use Rattle.std.proofs.lemmas.List.{get_or-set_same, get_or-set_other}
use Rattle.std.proofs.lemmas.Nat.Bits.{bit_at_and, bit_at_or, bit_at_ones, bit_at_ones_above, bit_at_mask_inside, bit_at_mask_below, ones_shl, ones_shr, bit_at-lt, bit_at-zero}
use Rattle.upload_stage.specs.Places.{mark_of}

-- ---- the bits between two

abbrev between : ℕ → ℕ → ℕ
between low high = bit_and ((2 ^ 64 - 1) * 2 ^ low % 2 ^ 64) ((2 ^ 64 - 1) / 2 ^ (64 - high))

module _ (low high bit : ℕ) (under : low ≤ 64) (within : high ≤ 64) where
  both : bit_at (between low high) bit ≡ min (bit_at (2 ^ 64 - 2 ^ low) bit) (bit_at (2 ^ high - 1) bit)
  both =
      let back : 64 - (64 - high) ≡ high = omega arith in
      let left : (2 ^ 64 - 1) * 2 ^ low % 2 ^ 64 ≡ 2 ^ 64 - 2 ^ low = ones_shl 64 low under in
      let right : (2 ^ 64 - 1) / 2 ^ (64 - high) ≡ 2 ^ high - 1 = ones_shr 64 (64 - high) (omega arith) ∙ ap (λ (k : ℕ). 2 ^ k - 1) back in
      bit_at_and ((2 ^ 64 - 1) * 2 ^ low % 2 ^ 64) ((2 ^ 64 - 1) / 2 ^ (64 - high)) bit ∙ (λ i. min (bit_at (left i) bit) (bit_at (right i) bit))

  pub below_zero : bit < low → bit_at (between low high) bit ≡ 0
  below_zero lt = let nil = bit_at_mask_below low 64 bit lt in omega (arith, both, nil)

  pub inside_one : low ≤ bit → bit < high → bit_at (between low high) bit ≡ 1
  inside_one le lt = let a = bit_at_mask_inside low 64 bit le (omega arith) in let b = bit_at_ones high bit lt in omega (arith, both, a, b)

  pub above_zero : high ≤ bit → bit_at (between low high) bit ≡ 0
  above_zero le = let nil = bit_at_ones_above high bit le in omega (arith, both, nil)

-- ---- one word is marked, from `at` up to `end`

module _ (marks : List ℕ) (at end mask : ℕ) (inside : at / 64 < length marks) (order : at < end) (near : end ≤ (at / 64 + 1) * 64)
    (below : (bit : ℕ) → bit < at % 64 → bit_at mask bit ≡ 0) (within : (bit : ℕ) → at % 64 ≤ bit → bit < end - at / 64 * 64 → bit_at mask bit ≡ 1) (above : (bit : ℕ) → end - at / 64 * 64 ≤ bit → bit_at mask bit ≡ 0) where
  abbrev new : List ℕ
  new = set marks (at / 64) (bit_or (get_or marks (at / 64) 0) mask)

  in_word : (place : ℕ) → place / 64 ≡ at / 64 → mark_of new place ≡ max (mark_of marks place) (bit_at mask (place % 64))
  in_word place e = rw e (ap (λ (n : ℕ). bit_at n (place % 64)) (get_or-set_same marks (at / 64) (bit_or (get_or marks (at / 64) 0) mask) 0 inside) ∙ bit_at_or (get_or marks (at / 64) 0) mask (place % 64))

  in_other : (place : ℕ) → (place / 64 ≡ at / 64 → ⊥) → mark_of new place ≡ mark_of marks place
  in_other place ne = ap (λ (n : ℕ). bit_at n (place % 64)) (get_or-set_other marks (at / 64) (place / 64) (bit_or (get_or marks (at / 64) 0) mask) 0 ne)

  pub stays_below : (place : ℕ) → place < at → mark_of new place ≡ mark_of marks place
  stays_below place lt = elim (cases_eq (place / 64) (at / 64)) [
    | inl e ↦ let nil = below (place % 64) (omega arith) in let word = in_word place e in omega (arith, word, nil)
    | inr ne ↦ in_other place ne
  ]

  pub is_inside : (place : ℕ) → at ≤ place → place < end → mark_of new place ≡ 1
  is_inside place le lt =
      let e : place / 64 ≡ at / 64 = omega arith in
      let one = within (place % 64) (omega arith) (omega arith) in
      let word = in_word place e in
      let bit = bit_at-lt (get_or marks (place / 64) 0) (place % 64) in
      omega (arith, word, one, bit)

  pub stays_above : (place : ℕ) → end ≤ place → mark_of new place ≡ mark_of marks place
  stays_above place le = elim (cases_eq (place / 64) (at / 64)) [
    | inl e ↦ let nil = above (place % 64) (omega arith) in let word = in_word place e in omega (arith, word, nil)
    | inr ne ↦ in_other place ne
  ]

-- ---- looking

pub whole_word : (marks : List ℕ) (at place : ℕ) → at % 64 ≡ 0 → get_or marks (at / 64) 0 ≡ 2 ^ 64 - 1 → at ≤ place → place < at + 64 → mark_of marks place ≡ 1
whole_word marks at place front all le lt =
    let e : place / 64 ≡ at / 64 = omega arith in
    rw (e, all) (bit_at_ones 64 (place % 64) (omega arith))

pub unmarked : (marks : List ℕ) (place : ℕ) → eqb (mark_of marks place) 1 ≡ false → mark_of marks place ≡ 0
unmarked marks place nil = let ne = eqb-false (mark_of marks place) 1 nil in let bit = bit_at-lt (get_or marks (place / 64) 0) (place % 64) in omega (arith, ne, bit)

zero_words : (n i : ℕ) → ◌≡◌ {A = ℕ} (get_or (replicate n 0) i 0) 0
zero_words zero i = refl
zero_words (suc n) zero = refl
zero_words (suc n) (suc i) = zero_words n i

pub no_marks : (n place : ℕ) → mark_of (replicate n 0) place ≡ 0
no_marks n place = rw (zero_words n (place / 64)) (bit_at-zero (place % 64))
