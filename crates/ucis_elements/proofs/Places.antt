-- The digits of a pattern, one place after the other.
use Rattle.std.proofs.Common.{◌≡◌, ℕ, zero, suc, ◌-◌, ◌<◌, List, [], ◌∷◌, ◌++◌, refl, sym, ◌∙◌, ap, subst, append_assoc, arith}
use Rattle.wildcard_bins.specs.declared.pattern.Pattern.{Pattern}
use Rattle.ucis_elements.specs.Numbers.{place_text, places_text}

highest_first : (p : Pattern) (n : ℕ) → 0 < n → places_text p n ≡ place_text p (n - 1) ∷ places_text p (n - 1)
highest_first p zero h = absurd (omega arith)
highest_first p (suc k) h =
    let same : k ≡ suc k - 1 = omega arith in
    subst (λ (i : ℕ). places_text p (suc k) ≡ place_text p i ∷ places_text p i) same refl

pub one_less : (p : Pattern) (text whole : List ℕ) (n digit : ℕ) → 0 < n → digit ≡ place_text p (n - 1) → text ++ places_text p n ≡ whole → (text ++ digit ∷ []) ++ places_text p (n - 1) ≡ whole
one_less p text whole n digit h e w =
    append_assoc text (digit ∷ []) (places_text p (n - 1))
    ∙ ap (λ (d : ℕ). text ++ d ∷ places_text p (n - 1)) e
    ∙ ap (λ (xs : List ℕ). text ++ xs) (sym (highest_first p n h)) ∙ w
