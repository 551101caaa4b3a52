-- The places of elements that pass a test.
use Rattle.std.proofs.Common.{◌≡◌, ◌≢◌, ◌⊎◌, ℕ, zero, suc, ◌+◌, ◌<◌, List, [], ◌∷◌, ◌++◌, length, get_or, Bool, true, false, cond, Some, refl, ap, sym, subst, ◌∙◌, inl, inr, arith}
use Rattle.std.specs.Prelude.{slice_get, Contains, AllPairs}
use Rattle.std.proofs.lemmas.List.Elements.{Contains-append_right, Contains-append_cases, Contains-get_or}
use Rattle.std.proofs.lemmas.List.Kept.{AllPairs-cons}
use Rattle.std.proofs.lemmas.Option.{cond_some, slice_get_within}
use Rattle.point_tables.specs.Tables.{places_from}
use Rattle.point_tables.proofs.Places.{in_none, in_one}

-- ---- elements

module _ {X : Type 0} where
  pub in_cons : (x : X) (xs : List X) (y : X) → Contains (x ∷ xs) y → (x ≡ y) ⊎ Contains xs y
  in_cons x xs y c = elim (Contains-append_cases (x ∷ []) xs y c) [ inl h ↦ inl (in_one x y h) | inr t ↦ inr t ]

  pub in_first : (x : X) (xs : List X) → Contains (x ∷ xs) x
  in_first x xs = (zero, omega arith, refl)

  pub in_later : (x : X) (xs : List X) (y : X) → Contains xs y → Contains (x ∷ xs) y
  in_later x xs y c = Contains-append_right (x ∷ []) xs y c

  -- lists without common elements, each without repeated ones, one behind the other
  pub once_append : (xs ys : List X) → AllPairs (λ a b. a ≢ b) xs → AllPairs (λ a b. a ≢ b) ys → ((x : X) → Contains xs x → Contains ys x → ⊥) → AllPairs (λ a b. a ≢ b) (xs ++ ys)
  once_append [] ys hx hy apart = hy
  once_append (x ∷ xs) ys hx hy apart =
      AllPairs-cons (λ a b. a ≢ b) x (xs ++ ys)
      (λ k d lt e. elim (Contains-append_cases xs ys x (subst (Contains (xs ++ ys)) (sym e) (Contains-get_or (xs ++ ys) k d lt))) [
        | inl here ↦ hx 0 (suc here.0) x (omega arith) (omega (arith, here.1)) (sym here.2)
        | inr there ↦ apart x (in_first x xs) there
      ])
      (once_append xs ys (λ i j d lt within. hx (suc i) (suc j) d (omega (arith, lt)) (omega (arith, within))) hy (λ y a b. apart y (in_later x xs y a) b))

-- ---- places

module _ {X : Type 0} (test : X → Bool) where
  pub record IsPlace (first : ℕ) (xs : List X) (place : ℕ) : Type 0 where
    pub index : ℕ
    pub element : X
    pub is_place : place ≡ first + index
    pub is_element : slice_get xs index ≡ Some element
    pub passes : test element ≡ true

  next_place : (first : ℕ) (x : X) (xs : List X) (place : ℕ) → IsPlace (first + 1) xs place → IsPlace first (x ∷ xs) place
  next_place first x xs place p = record { index = suc p.index; element = p.element; is_place = omega (arith, p.is_place); is_element = p.is_element; passes = p.passes }

  found : (first : ℕ) (x : X) (xs : List X) (place : ℕ) (b : Bool) → test x ≡ b → (Contains (places_from test (first + 1) xs) place → IsPlace (first + 1) xs place)
      → Contains (cond b (first ∷ places_from test (first + 1) xs) (places_from test (first + 1) xs)) place → IsPlace first (x ∷ xs) place
  found first x xs place true e later c = elim (in_cons first (places_from test (first + 1) xs) place c) [
    | inl here ↦ record { index = 0; element = x; is_place = omega (arith, here); is_element = refl; passes = e }
    | inr rest ↦ next_place first x xs place (later rest)
  ]
  found first x xs place false e later c = next_place first x xs place (later c)

  pub from_places : (first : ℕ) (xs : List X) (place : ℕ) → Contains (places_from test first xs) place → IsPlace first xs place
  from_places first [] place c = absurd (in_none place c)
  from_places first (x ∷ xs) place c = found first x xs place (test x) refl (from_places (first + 1) xs place) c

  among : (first place : ℕ) (ps : List ℕ) (b : Bool) → Contains ps place → Contains (cond b (first ∷ ps) ps) place
  among first place ps true c = in_later first ps place c
  among first place ps false c = c

  pub to_places : (first : ℕ) (xs : List X) (index : ℕ) (x : X) → slice_get xs index ≡ Some x → test x ≡ true → Contains (places_from test first xs) (first + index)
  to_places first [] index x is passes = let lt : index < length {A = X} [] = slice_get_within [] index x is in absurd (omega (arith, lt))
  to_places first (y ∷ xs) zero x is passes =
      let e : first ≡ first + 0 = omega arith in
      let same : y ≡ x = (cond_some true y x is).1 in
      let rest : List ℕ = places_from test (first + 1) xs in
      subst (λ (n : ℕ). Contains (cond (test y) (first ∷ rest) rest) n) e (subst (λ (b : Bool). Contains (cond b (first ∷ rest) rest) first) (sym (ap test same ∙ passes)) (in_first first rest))
  to_places first (y ∷ xs) (suc index) x is passes =
      let e : first + 1 + index ≡ first + suc index = omega arith in
      among first (first + suc index) (places_from test (first + 1) xs) (test y) (subst (Contains (places_from test (first + 1) xs)) e (to_places (first + 1) xs index x is passes))

  cons_once : (b : Bool) (first : ℕ) (xs : List X) → AllPairs (λ a b. a ≢ b) (places_from test (first + 1) xs) → AllPairs (λ a b. a ≢ b) (cond b (first ∷ places_from test (first + 1) xs) (places_from test (first + 1) xs))
  cons_once true first xs h = AllPairs-cons (λ a b. a ≢ b) first (places_from test (first + 1) xs)
      (λ k d lt e. let p = from_places (first + 1) xs (get_or (places_from test (first + 1) xs) k d) (Contains-get_or (places_from test (first + 1) xs) k d lt) in absurd (omega (arith, e, p.is_place)))
      h
  cons_once false first xs h = h

  pub places_once : (first : ℕ) (xs : List X) → AllPairs (λ a b. a ≢ b) (places_from test first xs)
  places_once first [] = λ i j d lt within. absurd (omega (arith, within))
  places_once first (x ∷ xs) = cons_once (test x) first xs (places_once (first + 1) xs)
