-- The products of points are those that have a bin number for each.
use Rattle.std.proofs.Common.{◌≡◌, ℕ, zero, suc, ◌+◌, ◌<◌, ◌≤◌, List, [], ◌∷◌, length, get_or, map, Bool, true, refl, ap, subst, inl, inr, arith}
use Rattle.std.proofs.lemmas.Bool.{cases_lt}
use Rattle.std.specs.Prelude.{IfOk, Result, Ok, Err, ◌↔◌}
use Rattle.std.specs.List.{range_with_len}
use Rattle.design_data.specs.Crosses.{IsProduct, products}
use Rattle.cov_counting.proofs.Bins.{Member, from_flat, in_flat}

module _ {X : Type 0} where
  pub index_of : (xs : List X) (y : X) → Member xs y → (k : ℕ) × (k < length xs) × (get_or xs k y ≡ y)
  index_of [] y m = absurd m
  index_of (x ∷ xs) y (inl e) = (zero, omega arith, e)
  index_of (x ∷ xs) y (inr m) = let r : (k : ℕ) × (k < length xs) × (get_or xs k y ≡ y) = index_of xs y m in (suc r.0, omega (arith, r.1), r.2)

  pub of_index : (xs : List X) (k : ℕ) (y : X) → k < length xs → get_or xs k y ≡ y → Member xs y
  of_index [] k y lt e = absurd (omega (arith, lt))
  of_index (x ∷ xs) zero y lt e = inl e
  of_index (x ∷ xs) (suc k) y lt e = inr (of_index xs k y (omega (arith, lt)) e)

module _ {X Y : Type 0} (f : X → Y) where
  from_map : (xs : List X) (y : Y) → Member (map f xs) y → (x : X) × Member xs x × (f x ≡ y)
  from_map [] y m = absurd m
  from_map (x ∷ xs) y (inl e) = (x, inl refl, e)
  from_map (x ∷ xs) y (inr m) = let r : (z : X) × Member xs z × (f z ≡ y) = from_map xs y m in (r.0, inr r.1, r.2)

  in_map : (xs : List X) (x : X) → Member xs x → Member (map f xs) (f x)
  in_map [] x m = absurd m
  in_map (z ∷ xs) x (inl e) = inl (ap f e)
  in_map (z ∷ xs) x (inr m) = inr (in_map xs x m)

from_range : (low n k : ℕ) → Member (range_with_len low n) k → k < low + n
from_range low zero k m = absurd m
from_range low (suc n) k (inl e) = omega (arith, e)
from_range low (suc n) k (inr m) = omega (arith, from_range (low + 1) n k m)

in_range : (low n k : ℕ) → low ≤ k → k < low + n → Member (range_with_len low n) k
in_range low zero k le lt = absurd (omega (arith, le, lt))
in_range low (suc n) zero le lt = let e : low ≡ zero = omega (arith, le) in inl e
in_range low (suc n) (suc k) le lt = elim (cases_lt low (suc k)) [
  | inl less ↦ inr (in_range (low + 1) n (suc k) (omega (arith, less)) (omega (arith, lt)))
  | inr more ↦ let e : low ≡ suc k = omega (arith, le, more) in inl e
]

pub is_product : (sizes product : List ℕ) → Member (products sizes) product → IsProduct sizes product
is_product [] product (inl e) = subst (IsProduct []) e tt
is_product [] product (inr m) = absurd m
is_product (size ∷ sizes) product m =
    let r = from_flat (λ (bin : ℕ). map (λ (rest : List ℕ). bin ∷ rest) (products sizes)) (range_with_len 0 size) product m in
    let q = from_map (λ (rest : List ℕ). r.0 ∷ rest) (products sizes) product r.2 in
    subst (IsProduct (size ∷ sizes)) q.2 (omega (arith, from_range 0 size r.0 r.1), is_product sizes q.0 q.1)

pub in_products : (sizes product : List ℕ) → IsProduct sizes product → Member (products sizes) product
in_products [] [] h = inl refl
in_products [] (bin ∷ product) h = absurd h
in_products (size ∷ sizes) [] h = absurd h
in_products (size ∷ sizes) (bin ∷ product) h =
    in_flat (λ (b : ℕ). map (λ (rest : List ℕ). b ∷ rest) (products sizes)) (range_with_len 0 size) bin (bin ∷ product) (in_range 0 size bin (omega arith) (omega (arith, h.0)))
    (in_map (λ (rest : List ℕ). bin ∷ rest) (products sizes) product (in_products sizes product h.1))

-- an answer that says one thing says another that is the same
pub told : {E : Type 0} (P Q : Type 0) → (P → Q) → (Q → P) → (r : Result Bool E) → IfOk r (λ b. (b ≡ true) ↔ P) → IfOk r (λ b. (b ≡ true) ↔ Q)
told P Q to back (Ok b) h = (λ t. to (h.0 t), λ q. h.1 (back q))
told P Q to back (Err e) h = tt
