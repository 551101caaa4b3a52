-- A fact has one number of places.
use Rattle.std.proofs.Common.{◌≡◌, ℕ, zero, suc, inl, inr, refl, sym, ap, ◌∙◌}
use Rattle.std.specs.Prelude.{◌⊎◌}
use Rattle.cov_spec.specs.Number.{Number}
use Rattle.cov_spec.specs.Number.Number.{none, yes, no}

module _ (P : ℕ → Type 0) where
  -- how a number came about
  abbrev From : ℕ → ℕ → Type 0
  From zero c = c ≡ zero
  From (suc n) c = ((less : ℕ) × (c ≡ suc less) × Number P n less × P n) ⊎ (Number P n c × (P n → ⊥))

  from : (n c : ℕ) → Number P n c → From n c
  from n c none = refl
  from n c (yes {n = m} {c = less} h here) = inl (less, refl, h, here)
  from n c (no h not_here) = inr (h, not_here)

  pub number_is_one : (n c d : ℕ) → Number P n c → Number P n d → c ≡ d
  number_is_one zero c d h k = from zero c h ∙ sym (from zero d k)
  number_is_one (suc n) c d h k = elim (from (suc n) c h) [
    | inl a ↦ elim (from (suc n) d k) [
      | inl b ↦ a.1 ∙ ap suc (number_is_one n a.0 b.0 a.2 b.2) ∙ sym b.1
      | inr b ↦ absurd (b.1 a.3)
    ]
    | inr a ↦ elim (from (suc n) d k) [
      | inl b ↦ absurd (a.1 b.3)
      | inr b ↦ number_is_one n c d a.0 b.0
    ]
  ]
