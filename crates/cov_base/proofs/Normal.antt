-- Intervals in normal form are determined by the numbers that they cover.
use Rattle.std.proofs.Common.{subst, ◌≡◌, ◌∙◌, ℤ, pos, ◌+ℤ◌, ◌≤ℤ◌, ◌<ℤ◌, List, [], ◌∷◌, refl, sym, arith, Bool, true, false, inl, inr}
use Rattle.std.specs.Prelude.{◌||◌, ◌⊎◌}
use Rattle.std.proofs.lemmas.Grind.{common_steps}
use Rattle.std.proofs.lemmas.Int.{ints, by_lt_z}
use Rattle.cov_base.specs.Sets.{is_within, covers, IsNormalFrom}

pub cases_of : (a b : ℤ) → (a <ℤ b) ⊎ (b ≤ℤ a)
cases_of a b = by_lt_z a b (λ h. inl h) (λ h. inr h)

-- a lower first bound serves as well
pub normal_lower : (low bound : ℤ) (rs : List (ℤ × ℤ)) → IsNormalFrom bound rs → low ≤ℤ bound → IsNormalFrom low rs
normal_lower low bound [] n le = tt
normal_lower low bound (r ∷ rs) n le = (omega (arith, ints, n.0), n.1, n.2)

-- below the first interval nothing is covered
pub covers-below : (low : ℤ) (rs : List (ℤ × ℤ)) (v : ℤ) → IsNormalFrom low rs → v <ℤ low → covers rs v ≡ false
covers-below low [] v n lt = refl
covers-below low (r ∷ rs) v n lt =
    let h : covers rs v ≡ false = covers-below (r.1 +ℤ pos 2) rs v n.2 (omega (arith, ints, n.0, n.1)) in
    outside r.0 r.1 (covers rs v) (omega (arith, ints, n.0)) h
  where
    outside : (a b : ℤ) (c : Bool) → v <ℤ a → c ≡ false → (is_within v (a, b) || c) ≡ false
    outside a b c lt h = grind (arith, common_steps, ints)

covers-first : (a b : ℤ) (rs : List (ℤ × ℤ)) (v : ℤ) → a ≤ℤ v → v ≤ℤ b → covers ((a, b) ∷ rs) v ≡ true
covers-first a b rs v h k = here (covers rs v)
  where
    here : (c : Bool) → (is_within v (a, b) || c) ≡ true
    here c = grind (arith, common_steps, ints)

covers-rest : (a b : ℤ) (rs : List (ℤ × ℤ)) (v : ℤ) → b <ℤ v → covers ((a, b) ∷ rs) v ≡ covers rs v
covers-rest a b rs v h = later (covers rs v)
  where
    later : (c : Bool) → (is_within v (a, b) || c) ≡ c
    later c = grind (arith, common_steps, ints)

-- the first one of a list begins no later, and ends no later, than the first of one that covers the same
begins : (low : ℤ) (x y : ℤ × ℤ) (xs ys : List (ℤ × ℤ)) → IsNormalFrom low (x ∷ xs) → IsNormalFrom low (y ∷ ys) → ((v : ℤ) → covers (x ∷ xs) v ≡ covers (y ∷ ys) v) → y.0 ≤ℤ x.0
begins low x y xs ys nx ny same =
    elim (cases_of x.0 y.0) [
      | inl lt ↦
          let yes : covers (x ∷ xs) x.0 ≡ true = covers-first x.0 x.1 xs x.0 (omega (arith, ints)) nx.1 in
          let no : covers (y ∷ ys) x.0 ≡ false = covers-below y.0 (y ∷ ys) x.0 (omega (arith, ints), ny.1, ny.2) lt in
          let e = same x.0 in
          absurd cc
      | inr le ↦ le
    ]

ends : (low : ℤ) (x y : ℤ × ℤ) (xs ys : List (ℤ × ℤ)) → IsNormalFrom low (x ∷ xs) → IsNormalFrom low (y ∷ ys) → ((v : ℤ) → covers (x ∷ xs) v ≡ covers (y ∷ ys) v) → y.0 ≤ℤ x.0 → y.1 ≤ℤ x.1
ends low x y xs ys nx ny same first =
    elim (cases_of x.1 y.1) [
      | inl lt ↦
          let yes : covers (y ∷ ys) (x.1 +ℤ pos 1) ≡ true = covers-first y.0 y.1 ys (x.1 +ℤ pos 1) (omega (arith, ints, nx.1)) (omega (arith, ints)) in
          let rest : covers (x ∷ xs) (x.1 +ℤ pos 1) ≡ covers xs (x.1 +ℤ pos 1) = covers-rest x.0 x.1 xs (x.1 +ℤ pos 1) (omega (arith, ints)) in
          let no : covers xs (x.1 +ℤ pos 1) ≡ false = covers-below (x.1 +ℤ pos 2) xs (x.1 +ℤ pos 1) nx.2 (omega (arith, ints)) in
          let e = same (x.1 +ℤ pos 1) in
          absurd cc
      | inr le ↦ le
    ]

tails : (x : ℤ × ℤ) (xs ys : List (ℤ × ℤ)) → IsNormalFrom (x.1 +ℤ pos 2) xs → IsNormalFrom (x.1 +ℤ pos 2) ys → ((v : ℤ) → covers (x ∷ xs) v ≡ covers (x ∷ ys) v) → (v : ℤ) → covers xs v ≡ covers ys v
tails x xs ys nx ny same v =
    elim (cases_of x.1 v) [
      | inl lt ↦ sym (covers-rest x.0 x.1 xs v lt) ∙ (same v ∙ covers-rest x.0 x.1 ys v lt)
      | inr le ↦ covers-below (x.1 +ℤ pos 2) xs v nx (omega (arith, ints)) ∙ sym (covers-below (x.1 +ℤ pos 2) ys v ny (omega (arith, ints)))
    ]

pair_is : (x y : ℤ × ℤ) → x.0 ≡ y.0 → x.1 ≡ y.1 → x ≡ y
pair_is x y a b = λ i. (a i, b i)

cons_is : (x y : ℤ × ℤ) (xs ys : List (ℤ × ℤ)) → x ≡ y → xs ≡ ys → (x ∷ xs) ≡ (y ∷ ys)
cons_is x y xs ys a b = λ i. a i ∷ b i

equal_ints : (a b : ℤ) → a ≤ℤ b → b ≤ℤ a → a ≡ b
equal_ints a b h k = omega (arith, ints)

pub normal_is_one : (low : ℤ) (xs ys : List (ℤ × ℤ)) → IsNormalFrom low xs → IsNormalFrom low ys → ((v : ℤ) → covers xs v ≡ covers ys v) → xs ≡ ys
normal_is_one low [] [] nx ny same = refl
normal_is_one low [] (y ∷ ys) nx ny same =
    let yes : covers (y ∷ ys) y.0 ≡ true = covers-first y.0 y.1 ys y.0 (omega (arith, ints)) ny.1 in
    let e = same y.0 in
    absurd cc
normal_is_one low (x ∷ xs) [] nx ny same =
    let yes : covers (x ∷ xs) x.0 ≡ true = covers-first x.0 x.1 xs x.0 (omega (arith, ints)) nx.1 in
    let e = same x.0 in
    absurd cc
normal_is_one low (x ∷ xs) (y ∷ ys) nx ny same =
    let back : (v : ℤ) → covers (y ∷ ys) v ≡ covers (x ∷ xs) v = λ v. sym (same v) in
    let b1 = begins low x y xs ys nx ny same in
    let b2 = begins low y x ys xs ny nx back in
    let low_is : x.0 ≡ y.0 = equal_ints x.0 y.0 b2 b1 in
    let e1 = ends low x y xs ys nx ny same b1 in
    let e2 = ends low y x ys xs ny nx back b2 in
    let high_is : x.1 ≡ y.1 = equal_ints x.1 y.1 e2 e1 in
    let is = pair_is x y low_is high_is in
    let ny' : IsNormalFrom (x.1 +ℤ pos 2) ys = rw high_is ny.2 in
    let same' = subst (λ (z : ℤ × ℤ). (v : ℤ) → covers (x ∷ xs) v ≡ covers (z ∷ ys) v) (sym is) same in
    cons_is x y xs ys is (normal_is_one (x.1 +ℤ pos 2) xs ys nx.2 ny' (tails x xs ys nx.2 ny' same'))
