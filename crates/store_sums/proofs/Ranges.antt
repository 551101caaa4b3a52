-- Numbers in order, and lists by their places.
use Rattle.std.proofs.Common.{◌≡◌, ℕ, zero, suc, ◌+◌, ◌<◌, Bool, false, List, [], ◌∷◌, ◌++◌, length, map, replicate, refl, ap, ◌∙◌, arith, add-one, if◌then◌else◌}
use Rattle.std.specs.Prelude.{filter, slice_index_or}
use Rattle.std.specs.List.{range_with_len}
use Rattle.std.proofs.lemmas.List.{map-append}
use Rattle.std.proofs.lemmas.List.Elements.{filter-append}
use Rattle.cov_history.proofs.Bools.{by_bool}

range_snoc : (a n : ℕ) → range_with_len a (suc n) ≡ range_with_len a n ++ (a + n) ∷ []
range_snoc a zero = let e : a ≡ a + 0 = omega arith in ap (λ x. x ∷ []) e
range_snoc a (suc n) =
    let e : (a + 1) + n ≡ a + suc n = omega arith in
    ap (λ xs. a ∷ xs) (range_snoc (a + 1) n ∙ ap (λ x. range_with_len (a + 1) n ++ x ∷ []) e)

-- one number more
pub range_more : (n : ℕ) → range_with_len 0 (n + 1) ≡ range_with_len 0 n ++ n ∷ []
range_more n = let e : 0 + n ≡ n = omega arith in ap (range_with_len 0) (add-one n) ∙ range_snoc 0 n ∙ ap (λ x. range_with_len 0 n ++ x ∷ []) e

pub filter_one : {A : Type 0} (p : A → Bool) (x : A) → filter p (x ∷ []) ≡ (if p x then x ∷ [] else [])
filter_one p x = by_bool (p x) (λ k. rw k refl) (λ k. rw k refl)

-- one number more, of those that pass
pub filter_more : (p : ℕ → Bool) (n : ℕ) → filter p (range_with_len 0 (n + 1)) ≡ filter p (range_with_len 0 n) ++ (if p n then n ∷ [] else [])
filter_more p n = ap (filter p) (range_more n) ∙ filter-append p (range_with_len 0 n) (n ∷ []) ∙ ap (λ xs. filter p (range_with_len 0 n) ++ xs) (filter_one p n)

-- no number passes
pub filter_none : (p : ℕ → Bool) (a n : ℕ) → ((m : ℕ) → m < a + n → p m ≡ false) → filter p (range_with_len a n) ≡ []
filter_none p a zero none = refl
filter_none p a (suc n) none =
    let here : p a ≡ false = none a (omega arith) in
    let rest = filter_none p (a + 1) n (λ m below. none m (omega (arith, below))) in
    rw here rest

pub replicate_more : {A : Type 0} (n : ℕ) (x : A) → replicate (n + 1) x ≡ replicate n x ++ x ∷ []
replicate_more n x = ap (λ m. replicate m x) (add-one n) ∙ at_end n
  where
    at_end : (m : ℕ) → replicate (suc m) x ≡ replicate m x ++ x ∷ []
    at_end zero = refl
    at_end (suc m) = ap (λ xs. x ∷ xs) (at_end m)

-- what is mapped, of one element more
pub map_more : {A B : Type 0} (f : A → B) (xs ys : List A) (x : A) (y : B) → ys ≡ xs ++ x ∷ [] → f x ≡ y → map f ys ≡ map f xs ++ y ∷ []
map_more {B = B} f xs ys x y e g = ap (map f) e ∙ map-append f xs (x ∷ []) ∙ ap (λ (v : B). map f xs ++ v ∷ []) g

-- an element that is there is the same, whatever stands for one that isn't
pub at_any : {A : Type 0} (xs : List A) (i : ℕ) (d e : A) → i < length xs → slice_index_or xs i d ≡ slice_index_or xs i e
at_any [] i d e below = absurd (omega (arith, below))
at_any (x ∷ xs) zero d e below = refl
at_any (x ∷ xs) (suc i) d e below = at_any xs i d e (omega (arith, below))
