-- Lists that are made element by element.
use Rattle.std.proofs.Common.{◌≡◌, ℕ, zero, suc, ◌+◌, ◌<◌, ◌≤◌, List, [], ◌∷◌, ◌++◌, length, map, take, get_or, refl, sym, ap, ◌∙◌, arith}
use Rattle.std.proofs.lemmas.List.{take_more, map-append}

-- one element more
pub one_listed : {A B C : Type 0} (f : A → C) (g : B → C) (xs : List A) (i : ℕ) (x : A) (y : B) (done new : List B) → i < length xs → x ≡ get_or xs i x → map g done ≡ map f (take i xs) → new ≡ done ++ y ∷ [] → g y ≡ f x → map g new ≡ map f (take (i + 1) xs)
one_listed {A = A} {C = C} f g xs i x y done new below is before e same =
    ap (map g) e ∙ map-append g done (y ∷ []) ∙ (λ j. before j ++ same j ∷ [])
    ∙ sym (ap (map f) (take_more xs i x below ∙ ap (λ (z : A). take i xs ++ z ∷ []) (sym is)) ∙ map-append f (take i xs) (x ∷ []))

pub take_all : {A : Type 0} (xs : List A) (i : ℕ) → length xs ≤ i → take i xs ≡ xs
take_all [] zero e = refl
take_all [] (suc i) e = refl
take_all (x ∷ xs) zero e = absurd (omega (arith, e))
take_all (x ∷ xs) (suc i) e = ap (λ ys. x ∷ ys) (take_all xs i (omega (arith, e)))

pub all_listed : {A C : Type 0} (f : A → C) (xs : List A) (i : ℕ) (zs : List C) → length xs ≤ i → zs ≡ map f (take i xs) → zs ≡ map f xs
all_listed f xs i zs e is = is ∙ ap (map f) (take_all xs i e)
