-- Elements of lists and of filtered lists.
use Rattle.std.proofs.Common.{◌≡◌, ℕ, ◌<◌, ◌⊎◌, List, [], ◌∷◌, map, length, get_or, refl, sym, ◌∙◌, subst, inl, inr, arith, Bool, true, false, cond, zero, suc}
use Rattle.std.specs.Prelude.{Contains}
use Rattle.std.specs.List.{filter, flat_map}
use Rattle.std.proofs.lemmas.List.Elements.{Contains-append_left, Contains-append_right}
use Rattle.std.proofs.lemmas.Bool.{false≢true}

module _ {X : Type 0} where
  pub none_in : (x : X) → Contains [] x → ⊥
  none_in x h = omega (arith, h.1)

  pub first_in : (x : X) (xs : List X) → Contains (x ∷ xs) x
  first_in x xs = (0, omega arith, refl)

  pub later_in : (y : X) (xs : List X) (x : X) → Contains xs x → Contains (y ∷ xs) x
  later_in y xs x h = (suc h.0, omega (arith, h.1), h.2)

  pub cases_in : (y : X) (xs : List X) (x : X) → Contains (y ∷ xs) x → (y ≡ x) ⊎ Contains xs x
  cases_in y xs x h = at h.0 h.1 h.2
    where
      at : (k : ℕ) → k < length (y ∷ xs) → get_or (y ∷ xs) k x ≡ x → (y ≡ x) ⊎ Contains xs x
      at zero within e = inl e
      at (suc k) within e = inr (k, omega (arith, within), e)

  module _ (p : X → Bool) where
    filter_one : (y : X) (ys : List X) (x : X) (b : Bool) → p y ≡ b → p x ≡ true → (Contains ys x → Contains (filter p ys) x) → (y ≡ x) ⊎ Contains ys x → Contains (cond b (y ∷ filter p ys) (filter p ys)) x
    filter_one y ys x true e passes next c = elim c [ inl same ↦ subst (Contains (y ∷ filter p ys)) same (first_in y (filter p ys)) | inr later ↦ later_in y (filter p ys) x (next later) ]
    filter_one y ys x false e passes next c = elim c [ inl same ↦ absurd (false≢true (sym e ∙ subst (λ z. p z ≡ true) (sym same) passes)) | inr later ↦ next later ]

    pub in_filter : (xs : List X) (x : X) → Contains xs x → p x ≡ true → Contains (filter p xs) x
    in_filter [] x h passes = absurd (none_in x h)
    in_filter (y ∷ ys) x h passes = filter_one y ys x (p y) refl passes (λ later. in_filter ys x later passes) (cases_in y ys x h)

    one_filter : (y : X) (ys : List X) (x : X) (b : Bool) → p y ≡ b → (Contains (filter p ys) x → Contains ys x × (p x ≡ true)) → Contains (cond b (y ∷ filter p ys) (filter p ys)) x → Contains (y ∷ ys) x × (p x ≡ true)
    one_filter y ys x true e next c = elim (cases_in y (filter p ys) x c) [
      | inl same ↦ (subst (Contains (y ∷ ys)) same (first_in y ys), subst (λ z. p z ≡ true) same e)
      | inr later ↦ let both = next later in (later_in y ys x both.0, both.1)
    ]
    one_filter y ys x false e next c = let both = next c in (later_in y ys x both.0, both.1)

    pub from_filter : (xs : List X) (x : X) → Contains (filter p xs) x → Contains xs x × (p x ≡ true)
    from_filter [] x h = absurd (none_in x h)
    from_filter (y ∷ ys) x h = one_filter y ys x (p y) refl (from_filter ys x) h

module _ {X Y : Type 0} where
  pub in_map : (f : X → Y) (xs : List X) (x : X) → Contains xs x → Contains (map f xs) (f x)
  in_map f [] x h = absurd (none_in x h)
  in_map f (y ∷ ys) x h = elim (cases_in y ys x h) [
    | inl same ↦ subst (λ z. Contains (f y ∷ map f ys) (f z)) same (first_in (f y) (map f ys))
    | inr later ↦ later_in (f y) (map f ys) (f x) (in_map f ys x later)
  ]

  pub in_flat_map : (g : X → List Y) (xs : List X) (x : X) (y : Y) → Contains xs x → Contains (g x) y → Contains (flat_map g xs) y
  in_flat_map g [] x y h k = absurd (none_in x h)
  in_flat_map g (z ∷ zs) x y h k = elim (cases_in z zs x h) [
    | inl same ↦ Contains-append_left (g z) (flat_map g zs) y (subst (λ u. Contains (g u) y) (sym same) k)
    | inr later ↦ Contains-append_right (g z) (flat_map g zs) y (in_flat_map g zs x y later k)
  ]
