-- The places of elements that pass a test.
use Rattle.std.proofs.Common.{◌≡◌, ℕ, ◌+◌, ◌<◌, List, [], ◌∷◌, ◌++◌, length, get_or, take, Bool, true, false, cond, ap, sym, ◌∙◌, inl, inr, arith}
use Rattle.std.specs.Prelude.{Contains}
use Rattle.std.proofs.lemmas.List.{take_more, append-nil, append_assoc, length-take-le}
use Rattle.std.proofs.lemmas.List.Elements.{Contains-push_cases}
use Rattle.point_tables.specs.Tables.{places_from}

-- ---- elements

module _ {X : Type 0} where
  pub in_none : (y : X) → Contains [] y → ⊥
  in_none y c = absurd (omega (arith, c.1))

  pub in_one : (x y : X) → Contains (x ∷ []) y → x ≡ y
  in_one x y c = elim (Contains-push_cases [] x y c) [ inl n ↦ absurd (in_none y n) | inr e ↦ e ]

cons_places : (b : Bool) (first : ℕ) (front back all : List ℕ) → all ≡ front ++ back → cond b (first ∷ all) all ≡ cond b (first ∷ front) front ++ back
cons_places true first front back all e = ap (λ (ps : List ℕ). first ∷ ps) e
cons_places false first front back all e = e

-- one place more behind those that were there
pub noted_more : (b : Bool) (place : ℕ) (old front met : List ℕ) → met ≡ old ++ front → cond b (met ++ place ∷ []) met ≡ old ++ (front ++ cond b (place ∷ []) [])
noted_more true place old front met e = ap (λ (ps : List ℕ). ps ++ place ∷ []) e ∙ append_assoc old front (place ∷ [])
noted_more false place old front met e = e ∙ ap (λ (ps : List ℕ). old ++ ps) (sym (append-nil front))

module _ {X : Type 0} (test : X → Bool) where
  pub places_append : (first : ℕ) (xs ys : List X) → places_from test first (xs ++ ys) ≡ places_from test first xs ++ places_from test (first + length xs) ys
  places_append first [] ys = let e : first ≡ first + 0 = omega arith in ap (λ (n : ℕ). places_from test n ys) e
  places_append first (x ∷ xs) ys =
      let e : first + 1 + length xs ≡ first + length (x ∷ xs) = omega arith in
      cons_places (test x) first (places_from test (first + 1) xs) (places_from test (first + length (x ∷ xs)) ys) (places_from test (first + 1) (xs ++ ys))
      (places_append (first + 1) xs ys ∙ ap (λ (n : ℕ). places_from test (first + 1) xs ++ places_from test n ys) e)

  -- one element more
  pub places_more : (xs : List X) (i : ℕ) (x : X) → i < length xs → x ≡ get_or xs i x → places_from test 0 (take (i + 1) xs) ≡ places_from test 0 (take i xs) ++ cond (test x) (i ∷ []) []
  places_more xs i x lt is =
      let e : 0 + length (take i xs) ≡ i = omega (arith, lt, length-take-le i xs (omega (arith, lt))) in
      ap (places_from test 0) (take_more xs i x lt ∙ ap (λ (y : X). take i xs ++ y ∷ []) (sym is))
      ∙ places_append 0 (take i xs) (x ∷ [])
      ∙ ap (λ (n : ℕ). places_from test 0 (take i xs) ++ cond (test x) (n ∷ []) []) e
