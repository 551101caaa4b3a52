-- A piece for each two of two lists, side by side.
use Rattle.std.proofs.Common.{◌≡◌, ℕ, zero, suc, List, [], ◌∷◌, ◌++◌, drop, length, refl, sym, ap, ◌∙◌, arith, append-nil}
use Rattle.std.specs.Prelude.{min}
use Rattle.markup.specs.Trees.{Markup, markup_text, each_pair}

module _ {A B : Type 0} (piece : A → B → Markup) where
  none_left : (xs : List A) (ys : List B) (n : ℕ) → n ≡ min (length xs) (length ys) → markup_text (each_pair piece (drop n xs) (drop n ys)) ≡ []
  none_left [] ys zero h = refl
  none_left (x ∷ xs) [] zero h = refl
  none_left (x ∷ xs) (y ∷ ys) zero h = absurd (omega (arith, h))
  none_left [] ys (suc n) h = absurd (omega (arith, h))
  none_left (x ∷ xs) [] (suc n) h = absurd (omega (arith, h))
  none_left (x ∷ xs) (y ∷ ys) (suc n) h = none_left xs ys n (omega (arith, h))

  -- what is written of all of them, where nothing is left
  pub all_written : (xs : List A) (ys : List B) (n : ℕ) (old new : List ℕ) → n ≡ min (length xs) (length ys)
      → new ++ markup_text (each_pair piece (drop n xs) (drop n ys)) ≡ old ++ markup_text (each_pair piece xs ys) → new ≡ old ++ markup_text (each_pair piece xs ys)
  all_written xs ys n old new h e =
      sym (append-nil new) ∙ sym (ap (λ (left : List ℕ). new ++ left) (none_left xs ys n h)) ∙ e
