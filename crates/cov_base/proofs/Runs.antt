-- The set of the numbers of a list is in normal form and covers them, so it is the only such set.
use Rattle.std.proofs.Common.{◌≡◌, ◌∙◌, ℤ, pos, ◌+ℤ◌, ◌≤ℤ◌, List, [], ◌∷◌, refl, ap, sym, arith, Bool, true, false, cond, int_lt, int_eq, inl, inr}
use Rattle.std.specs.Prelude.{◌||◌}
use Rattle.std.proofs.lemmas.Grind.{common_steps}
use Rattle.std.proofs.lemmas.Int.{ints}
use Rattle.std.proofs.lemmas.Bool.Decides.{Decides-int_eq, not_from_Decides}
use Rattle.cov_base.specs.Sets.{is_in, put, ascending, is_within, covers, IsNormalFrom, extend, runs, set_of, written}
use Rattle.cov_base.proofs.Members.{is_in-ascending, is_in-written}
use Rattle.cov_base.proofs.Normal.{normal_is_one, normal_lower, cases_of}

abbrev IsAscendingFrom : ℤ → List ℤ → Type 0
IsAscendingFrom low [] = Unit {0}
IsAscendingFrom low (x ∷ xs) = (low ≤ℤ x) × IsAscendingFrom (x +ℤ pos 1) xs

ascending_lower : (low bound : ℤ) (xs : List ℤ) → IsAscendingFrom bound xs → low ≤ℤ bound → IsAscendingFrom low xs
ascending_lower low bound [] a le = tt
ascending_lower low bound (x ∷ xs) a le = (omega (arith, ints, a.0), a.1)

put_ascending : (low v : ℤ) (xs : List ℤ) → IsAscendingFrom low xs → low ≤ℤ v → IsAscendingFrom low (put v xs)
put_ascending low v [] a le = (le, tt)
put_ascending low v (x ∷ xs) a le = before (λ h. put_ascending (x +ℤ pos 1) v xs a.1 h) (int_lt v x) refl
  where
    after : ((x +ℤ pos 1) ≤ℤ v → IsAscendingFrom (x +ℤ pos 1) (put v xs)) → (c : Bool) → int_lt x v ≡ c → IsAscendingFrom low (cond c (x ∷ put v xs) (x ∷ xs))
    after more true e = (a.0, more (omega (arith, ints, e)))
    after more false e = a

    before : ((x +ℤ pos 1) ≤ℤ v → IsAscendingFrom (x +ℤ pos 1) (put v xs)) → (b : Bool) → int_lt v x ≡ b → IsAscendingFrom low (cond b (v ∷ x ∷ xs) (cond (int_lt x v) (x ∷ put v xs) (x ∷ xs)))
    before more true e = (le, (omega (arith, ints, e), a.1))
    before more false e = after more (int_lt x v) refl

-- a number from which an ascending list begins
ascending_from : (xs : List ℤ) → (low : ℤ) × IsAscendingFrom low (ascending xs)
ascending_from [] = (pos 0, tt)
ascending_from (x ∷ xs) =
    let rest = ascending_from xs in
    elim (cases_of x rest.0) [
      | inl lt ↦ (x, put_ascending x x (ascending xs) (ascending_lower x rest.0 (ascending xs) rest.1 (omega (arith, ints))) (omega (arith, ints)))
      | inr le ↦ (rest.0, put_ascending rest.0 x (ascending xs) rest.1 le)
    ]

extend_normal : (low x : ℤ) (rs : List (ℤ × ℤ)) → low ≤ℤ x → IsNormalFrom (x +ℤ pos 1) rs → IsNormalFrom low (extend x rs)
extend_normal low x [] le n = (le, omega (arith, ints), tt)
extend_normal low x (r ∷ rs) le n = by_test (int_eq (x +ℤ pos 1) r.0) refl
  where
    by_test : (b : Bool) → int_eq (x +ℤ pos 1) r.0 ≡ b → IsNormalFrom low (cond b ((x, r.1) ∷ rs) ((x, x) ∷ r ∷ rs))
    by_test true e = (le, omega (arith, ints, n.0, n.1), n.2)
    by_test false e =
        let apart : ¬ (x +ℤ pos 1 ≡ r.0) = not_from_Decides _ (Decides-int_eq _ _) e in
        (le, omega (arith, ints), (omega (arith, ints, n.0, apart), n.1, n.2))

extend_covers : (x : ℤ) (rs : List (ℤ × ℤ)) (v : ℤ) → IsNormalFrom (x +ℤ pos 1) rs → covers (extend x rs) v ≡ (int_eq v x || covers rs v)
extend_covers x [] v n = one x v
  where
    one : (x v : ℤ) → (is_within v (x, x) || false) ≡ (int_eq v x || false)
    one x v = grind (arith, common_steps, ints)
extend_covers x (r ∷ rs) v n = by_test (int_eq (x +ℤ pos 1) r.0) refl
  where
    joined : (a b : ℤ) (c : Bool) → int_eq (x +ℤ pos 1) a ≡ true → a ≤ℤ b → (is_within v (x, b) || c) ≡ (int_eq v x || (is_within v (a, b) || c))
    joined a b c e le = grind (arith, common_steps, ints)

    apart : (c : Bool) → (is_within v (x, x) || c) ≡ (int_eq v x || c)
    apart c = grind (arith, common_steps, ints)

    by_test : (b : Bool) → int_eq (x +ℤ pos 1) r.0 ≡ b → covers (cond b ((x, r.1) ∷ rs) ((x, x) ∷ r ∷ rs)) v ≡ (int_eq v x || covers (r ∷ rs) v)
    by_test true e = joined r.0 r.1 (covers rs v) e n.1
    by_test false e = apart (covers (r ∷ rs) v)

runs_normal : (low : ℤ) (xs : List ℤ) → IsAscendingFrom low xs → IsNormalFrom low (runs xs)
runs_normal low [] a = tt
runs_normal low (x ∷ xs) a = extend_normal low x (runs xs) a.0 (runs_normal (x +ℤ pos 1) xs a.1)

runs_cover : (low : ℤ) (xs : List ℤ) → IsAscendingFrom low xs → (v : ℤ) → covers (runs xs) v ≡ is_in xs v
runs_cover low [] a v = refl
runs_cover low (x ∷ xs) a v = extend_covers x (runs xs) v (runs_normal (x +ℤ pos 1) xs a.1) ∙ ap (λ (b : Bool). int_eq v x || b) (runs_cover (x +ℤ pos 1) xs a.1 v)

pub set_of_normal : (xs : List ℤ) → (low : ℤ) × IsNormalFrom low (set_of xs)
unfolding set_of
set_of_normal xs = let from = ascending_from xs in (from.0, runs_normal from.0 (ascending xs) from.1)

pub set_of_covers : (xs : List ℤ) (v : ℤ) → covers (set_of xs) v ≡ is_in xs v
unfolding set_of
set_of_covers xs v = let from = ascending_from xs in runs_cover from.0 (ascending xs) from.1 v ∙ is_in-ascending xs v

-- intervals in normal form that cover the same numbers are the same
pub same_when_covered : (low bound : ℤ) (rs ss : List (ℤ × ℤ)) → IsNormalFrom low rs → IsNormalFrom bound ss → ((v : ℤ) → covers rs v ≡ covers ss v) → rs ≡ ss
same_when_covered low bound rs ss n m same =
    elim (cases_of low bound) [
      | inl lt ↦ normal_is_one low rs ss n (normal_lower low bound ss m (omega (arith, ints))) same
      | inr le ↦ normal_is_one bound rs ss (normal_lower bound low rs n le) m same
    ]

-- what is in normal form and covers the numbers of a list is the set of the list
pub set_of_is : (low : ℤ) (rs : List (ℤ × ℤ)) (xs : List ℤ) → IsNormalFrom low rs → ((v : ℤ) → covers rs v ≡ is_in xs v) → rs ≡ set_of xs
set_of_is low rs xs n same =
    let set = set_of_normal xs in
    same_when_covered low set.0 rs (set_of xs) n set.1 (λ v. same v ∙ sym (set_of_covers xs v))

-- a set is the set of its numbers
pub set_of-written : (low : ℤ) (rs : List (ℤ × ℤ)) → IsNormalFrom low rs → rs ≡ set_of (written rs)
set_of-written low rs n = set_of_is low rs (written rs) n (λ v. sym (is_in-written rs v))

pub set_of_numbers : (xs : List ℤ) (v : ℤ) → is_in (written (set_of xs)) v ≡ is_in xs v
set_of_numbers xs v = is_in-written (set_of xs) v ∙ set_of_covers xs v
