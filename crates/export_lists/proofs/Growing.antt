-- Lines behind those that are there.
use Rattle.std.proofs.Common.{◌≡◌, ℕ, ◌+◌, ◌<◌, List, [], ◌∷◌, ◌++◌, take, length, get_or, refl, sym, ap, ◌∙◌}
use Rattle.std.specs.List.{flat_map}
use Rattle.std.proofs.lemmas.List.{take_more, append-nil}
use Rattle.std.proofs.lemmas.Grind.{flat_map-append}

assoc : (xs ys zs : List ℕ) → (xs ++ ys) ++ zs ≡ xs ++ (ys ++ zs)
assoc [] ys zs = refl
assoc (x ∷ xs) ys zs = ap (λ (ws : List ℕ). x ∷ ws) (assoc xs ys zs)

pub two_more : (first mid new a b : List ℕ) → mid ≡ first ++ a → new ≡ mid ++ b → new ≡ first ++ (a ++ b)
two_more first mid new a b m e = e ∙ ap (λ (xs : List ℕ). xs ++ b) m ∙ assoc first a b

module _ (f : ℕ → List ℕ) (xs : List ℕ) where
  one_more : (i d : ℕ) → i < length xs → flat_map f (take (i + 1) xs) ≡ flat_map f (take i xs) ++ f (get_or xs i d)
  one_more i d lt =
      ap (flat_map f) (take_more xs i d lt) ∙ flat_map-append f (take i xs) (get_or xs i d ∷ [])
      ∙ ap (λ (ys : List ℕ). flat_map f (take i xs) ++ ys) (append-nil (f (get_or xs i d)))

  pub grown_by : (i d : ℕ) (first old new : List ℕ) → i < length xs → old ≡ first ++ flat_map f (take i xs) → new ≡ old ++ f (get_or xs i d) → new ≡ first ++ flat_map f (take (i + 1) xs)
  grown_by i d first old new lt was e =
      two_more first old new (flat_map f (take i xs)) (f (get_or xs i d)) was e ∙ ap (λ (ys : List ℕ). first ++ ys) (sym (one_more i d lt))
