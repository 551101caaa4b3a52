-- Parts of lists that share nothing, and numbers that are listed once.
use Rattle.std.proofs.Common.{◌≡◌, ◌∙◌, ℤ, ◌<ℤ◌, List, [], ◌∷◌, ◌++◌, refl, sym, ap, subst, Bool, true, false, cond, arith, int_lt}
use Rattle.std.specs.Prelude.{◌||◌}
use Rattle.std.specs.Ordering.{int_eq}
use Rattle.std.specs.List.{flat_map, AllByRecursion}
use Rattle.std.proofs.lemmas.Int.{ints}
use Rattle.std.proofs.lemmas.Grind.{common_steps}
use Rattle.cov_base.specs.Sets.{is_in, put, ascending}
use Rattle.cov_base.proofs.Members.{is_in-append, is_in-ascending}
use Rattle.bin_spec.specs.Parts.{parts}
use Rattle.bin_spec.proofs.Spreads.{parts_together}
use Rattle.elab_bins.specs.Laws.{AreListedOnce, AreApart, PartsAreApart, Ascend, SinglesAreListed}

or_none_left : (a b : Bool) → (a || b) ≡ false → a ≡ false
or_none_left false b e = refl
or_none_left true b e = absurd cc

or_none_right : (a b : Bool) → (a || b) ≡ false → b ≡ false
or_none_right false b e = e
or_none_right true b e = absurd cc

once_behind : (xs ys : List ℤ) → AreListedOnce (xs ++ ys) → AreListedOnce ys
once_behind [] ys h = h
once_behind (x ∷ xs) ys h = once_behind xs ys h.1

same_number : (v x : ℤ) → int_eq v x ≡ true → v ≡ x
same_number v x e = grind (arith, common_steps, ints, e)

not_behind_by : (x : ℤ) (xs ys : List ℤ) (v : ℤ) → AreListedOnce (x ∷ (xs ++ ys)) → (is_in xs v ≡ true → is_in ys v ≡ false) → (b : Bool) → int_eq v x ≡ b → (b || is_in xs v) ≡ true → is_in ys v ≡ false
not_behind_by x xs ys v h rest true is e = ap (is_in ys) (same_number v x is) ∙ or_none_right (is_in xs x) (is_in ys x) (sym (is_in-append xs ys x) ∙ h.0)
not_behind_by x xs ys v h rest false is e = rest e

not_behind : (xs ys : List ℤ) (v : ℤ) → AreListedOnce (xs ++ ys) → is_in xs v ≡ true → is_in ys v ≡ false
not_behind [] ys v h e = absurd cc
not_behind (x ∷ xs) ys v h e = not_behind_by x xs ys v h (not_behind xs ys v h.1) (int_eq v x) refl e

in_none : (lists : List (List ℤ)) (v : ℤ) → is_in (flat_map (λ ys. ys) lists) v ≡ false → AllByRecursion (λ ys. is_in ys v ≡ false) lists
in_none [] v e = tt
in_none (ys ∷ lists) v e =
    let both : (is_in ys v || is_in (flat_map (λ zs. zs) lists) v) ≡ false = sym (is_in-append ys (flat_map (λ zs. zs) lists) v) ∙ e in
    (or_none_left _ _ both, in_none lists v (or_none_right (is_in ys v) (is_in (flat_map (λ zs. zs) lists) v) both))

lists_apart : (lists : List (List ℤ)) → AreListedOnce (flat_map (λ ys. ys) lists) → AreApart lists
lists_apart [] h = tt
lists_apart (ys ∷ lists) h = (λ v e. in_none lists v (not_behind ys (flat_map (λ zs. zs) lists) v h e), lists_apart lists (once_behind ys (flat_map (λ zs. zs) lists) h))

pub parts_apart : PartsAreApart
parts_apart numbers n some once = lists_apart (parts numbers n) (subst AreListedOnce (sym (parts_together numbers n some)) once)

-- ---- ascending lists

pub all_put : (P : ℤ → Type 0) (v : ℤ) (xs : List ℤ) → P v → AllByRecursion P xs → AllByRecursion P (put v xs)
all_put P v [] p all = (p, tt)
all_put P v (x ∷ xs) p all = by (int_lt v x) (int_lt x v) (all_put P v xs p all.1)
  where
    by : (a b : Bool) → AllByRecursion P (put v xs) → AllByRecursion P (cond a (v ∷ x ∷ xs) (cond b (x ∷ put v xs) (x ∷ xs)))
    by true b more = (p, all)
    by false true more = (all.0, more)
    by false false more = all

all_above : (v x : ℤ) (xs : List ℤ) → v <ℤ x → AllByRecursion (λ y. x <ℤ y) xs → AllByRecursion (λ y. v <ℤ y) xs
all_above v x [] lt all = tt
all_above v x (y ∷ ys) lt all = (omega (arith, ints, lt, all.0), all_above v x ys lt all.1)

is_less : (a b : ℤ) → int_lt a b ≡ true → a <ℤ b
is_less a b e = grind (arith, common_steps, ints, e)

put_ascends : (v : ℤ) (xs : List ℤ) → Ascend xs → Ascend (put v xs)
put_ascends v [] h = (tt, tt)
put_ascends v (x ∷ xs) h = by (int_lt v x) (int_lt x v) refl refl (put_ascends v xs h.1)
  where
    by : (a b : Bool) → int_lt v x ≡ a → int_lt x v ≡ b → Ascend (put v xs) → Ascend (cond a (v ∷ x ∷ xs) (cond b (x ∷ put v xs) (x ∷ xs)))
    by true b e f more = ((is_less v x e, all_above v x xs (is_less v x e) h.0), h)
    by false true e f more = (all_put (λ y. x <ℤ y) v xs (is_less x v f) h.0, more)
    by false false e f more = h

pub ascends : (xs : List ℤ) → Ascend (ascending xs)
ascends [] = tt
ascends (x ∷ xs) = put_ascends x (ascending xs) (ascends xs)

pub singles_listed : SinglesAreListed
singles_listed numbers = (ascends numbers, is_in-ascending numbers)
