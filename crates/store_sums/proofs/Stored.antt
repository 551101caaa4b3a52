-- From what a store holds to what it stands for.
use Rattle.std.proofs.Common.{◌≡◌, ℕ, zero, suc, List, [], ◌∷◌, map, refl, ap, ◌∙◌, Option, Some, None, is_some}
use Rattle.std.specs.Prelude.{slice_index_or, slice_set, option_map}
use Rattle.std.proofs.lemmas.List.{map-set}

pub is_some_map : {A B : Type 0} (f : A → B) (o : Option A) → is_some (option_map f o) ≡ is_some o
is_some_map f None = refl
is_some_map f (Some x) = refl

pub option_at : {A B : Type 0} (f : A → B) (xs : List (Option A)) (n : ℕ) → slice_index_or (map (λ p. option_map f p) xs) n None ≡ option_map f (slice_index_or xs n None)
option_at f [] n = refl
option_at f (x ∷ xs) zero = refl
option_at f (x ∷ xs) (suc n) = option_at f xs n

pub set_option : {A B : Type 0} (f : A → B) (xs ys : List (Option A)) (n : ℕ) (x : A) (y : B) → ys ≡ slice_set xs n (Some x) → f x ≡ y → map (λ p. option_map f p) ys ≡ slice_set (map (λ p. option_map f p) xs) n (Some y)
set_option {B = B} f xs ys n x y s e = ap (map (λ p. option_map f p)) s ∙ map-set (λ p. option_map f p) xs n (Some x) ∙ ap (λ (v : B). slice_set (map (λ p. option_map f p) xs) n (Some v)) e

pub unset_option : {A B : Type 0} (f : A → B) (xs ys : List (Option A)) (n : ℕ) → ys ≡ slice_set xs n None → map (λ p. option_map f p) ys ≡ slice_set (map (λ p. option_map f p) xs) n None
unset_option f xs ys n e = ap (map (λ p. option_map f p)) e ∙ map-set (λ p. option_map f p) xs n None
