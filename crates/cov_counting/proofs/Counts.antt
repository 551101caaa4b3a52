-- How numbers of places grow, place by place.
use Rattle.std.proofs.Common.{subst, ◌≡◌, ◌⊎◌, ℕ, zero, suc, ◌+◌, ◌<◌, ◌≤◌, inl, inr, refl, sym, arith}
use Rattle.cov_spec.specs.Number.{Number}
use Rattle.cov_spec.specs.Number.Number.{none, yes, no}
use Rattle.cov_spec.proofs.Numbers.{number_is_one}

module _ (P : ℕ → Type 0) where
  -- how a number came about at its last place
  abbrev Last : ℕ → ℕ → Type 0
  Last zero c = c ≡ zero
  Last (suc n) c = ((less : ℕ) × (c ≡ suc less) × Number P n less × P n) ⊎ (Number P n c × (P n → ⊥))

  last : (n c : ℕ) → Number P n c → Last n c
  last n c none = refl
  last n c (yes {n = m} {c = less} h here) = inl (less, refl, h, here)
  last n c (no h not_here) = inr (h, not_here)

  pub number_rises : (n a b : ℕ) → Number P n a → Number P (suc n) b → (b ≡ a) ⊎ (b ≡ a + 1)
  number_rises n a b h k = elim (last (suc n) b k) [
    | inl l ↦ inr (let e = number_is_one P n l.0 a l.2 h in omega (arith, l.1, e))
    | inr l ↦ inl (number_is_one P n b a l.0 h)
  ]

  pub number_stays : (n a b : ℕ) → (P n → ⊥) → Number P n a → Number P (suc n) b → b ≡ a
  number_stays n a b not_here h k = elim (last (suc n) b k) [
    | inl l ↦ absurd (not_here l.3)
    | inr l ↦ number_is_one P n b a l.0 h
  ]

  pub number_most : (n c : ℕ) → Number P n c → c ≤ n
  number_most zero c h = let e = last zero c h in omega (arith, e)
  number_most (suc n) c h = elim (last (suc n) c h) [
    | inl l ↦ omega (arith, l.1, number_most n l.0 l.2)
    | inr l ↦ omega (arith, number_most n c l.0)
  ]

  -- one place more
  pub number_more : (n c : ℕ) → Number P n c → P n → Number P (n + 1) (c + 1)
  number_more n c h p = let e : n + 1 ≡ suc n = omega arith in let f : c + 1 ≡ suc c = omega arith in subst (λ (m : ℕ). Number P m (c + 1)) (sym e) (subst (Number P (suc n)) (sym f) (yes h p))

  pub number_same : (n c : ℕ) → Number P n c → (P n → ⊥) → Number P (n + 1) c
  number_same n c h p = let e : n + 1 ≡ suc n = omega arith in subst (λ (m : ℕ). Number P m c) (sym e) (no h p)

module _ (P Q : ℕ → Type 0) where
  -- what holds at fewer places has a smaller number
  pub number_le : (n c d : ℕ) → ((k : ℕ) → k < n → P k → Q k) → Number P n c → Number Q n d → c ≤ d
  number_le zero c d to h k = let e = last P zero c h in omega (arith, e)
  number_le (suc n) c d to h k = elim (last P (suc n) c h) [
    | inl a ↦ elim (last Q (suc n) d k) [
      | inl b ↦ omega (arith, a.1, b.1, number_le n a.0 b.0 (λ j lt. to j (omega (arith, lt))) a.2 b.2)
      | inr b ↦ absurd (b.1 (to n (omega arith) a.3))
    ]
    | inr a ↦ elim (last Q (suc n) d k) [
      | inl b ↦ omega (arith, b.1, number_le n c b.0 (λ j lt. to j (omega (arith, lt))) a.0 b.2)
      | inr b ↦ number_le n c d (λ j lt. to j (omega (arith, lt))) a.0 b.0
    ]
  ]
