-- The set of a list written out has the numbers of the list, ascending, each once.
use Rattle.std.proofs.Common.{◌≡◌, ◌∙◌, refl, ap, ℕ, suc, ℤ, pos, ◌+ℤ◌, ◌-ℤ◌, ◌≤ℤ◌, List, [], ◌∷◌, ◌++◌, arith, Bool, true, false, cond}
use Rattle.std.specs.Ordering.{int_eq}
use Rattle.std.proofs.lemmas.Grind.{common_steps}
use Rattle.std.proofs.lemmas.Int.{ints}
use Rattle.cov_base.specs.Sets.{count_from, size, span, written, ascending, extend, runs, set_of}
use Rattle.cov_base.proofs.Members.{size_of_some}
use Rattle.value_bins.proofs.Written.{span_of}

equal : (a b : ℤ) → int_eq a b ≡ true → a ≡ b
equal a b e = grind (arith, common_steps, ints)

-- each range has its ends the right way round
abbrev InOrder : List (ℤ × ℤ) → Type 0
InOrder [] = Unit {0}
InOrder (r ∷ rs) = (r.0 ≤ℤ r.1) × InOrder rs

extend_order : (x : ℤ) (rs : List (ℤ × ℤ)) → InOrder rs → InOrder (extend x rs)
extend_order x [] order = (omega (arith, ints), tt)
extend_order x (r ∷ rs) order = by (int_eq (x +ℤ pos 1) r.0) refl
  where
    by : (t : Bool) → int_eq (x +ℤ pos 1) r.0 ≡ t → InOrder (cond t ((x, r.1) ∷ rs) ((x, x) ∷ r ∷ rs))
    by true e = (omega (arith, ints, equal (x +ℤ pos 1) r.0 e, order.0), order.1)
    by false e = (omega (arith, ints), order)

runs_order : (xs : List ℤ) → InOrder (runs xs)
runs_order [] = tt
runs_order (x ∷ xs) = extend_order x (runs xs) (runs_order xs)

one_span : (x : ℤ) → span (x, x) ≡ x ∷ []
one_span x = span_of x 1 (x, x) refl (omega (arith, ints))

more_span : (x : ℤ) (r : ℤ × ℤ) → r.0 ≤ℤ r.1 → x +ℤ pos 1 ≡ r.0 → span (x, r.1) ≡ x ∷ span r
unfolding span
more_span x r le next =
    let many : pos (size r) ≡ (r.1 +ℤ pos 1) -ℤ r.0 = size_of_some r le in
    span_of x (suc (size r)) (x, r.1) refl (longer x r.0 r.1 (size r) many next) ∙ ap (λ (y : ℤ). x ∷ count_from y (size r)) next
  where
    longer : (x a b : ℤ) (n : ℕ) → pos n ≡ (b +ℤ pos 1) -ℤ a → x +ℤ pos 1 ≡ a → (b +ℤ pos 1) -ℤ x ≡ pos (suc n)
    longer x a b n many next = omega (arith, ints, many, next)

written-extend : (x : ℤ) (rs : List (ℤ × ℤ)) → InOrder rs → written (extend x rs) ≡ x ∷ written rs
unfolding written
written-extend x [] order = ap (λ (ys : List ℤ). ys ++ []) (one_span x)
written-extend x (r ∷ rs) order = by (int_eq (x +ℤ pos 1) r.0) refl
  where
    by : (t : Bool) → int_eq (x +ℤ pos 1) r.0 ≡ t → written (cond t ((x, r.1) ∷ rs) ((x, x) ∷ r ∷ rs)) ≡ x ∷ (span r ++ written rs)
    by true e = ap (λ (ys : List ℤ). ys ++ written rs) (more_span x r order.0 (equal (x +ℤ pos 1) r.0 e))
    by false e = ap (λ (ys : List ℤ). ys ++ (span r ++ written rs)) (one_span x)

written-runs : (xs : List ℤ) → written (runs xs) ≡ xs
unfolding written
written-runs [] = refl
written-runs (x ∷ xs) = written-extend x (runs xs) (runs_order xs) ∙ ap (λ (ys : List ℤ). x ∷ ys) (written-runs xs)

pub written-set_of : (xs : List ℤ) → written (set_of xs) ≡ ascending xs
unfolding set_of
written-set_of xs = written-runs (ascending xs)

-- the numbers of the set of ranges
pub distinct_are : (ranges slice set : List (ℤ × ℤ)) → slice ≡ ranges → set ≡ set_of (written slice) → written set ≡ ascending (written ranges)
distinct_are ranges slice set same is = ap written is ∙ (written-set_of (written slice) ∙ ap (λ (rs : List (ℤ × ℤ)). ascending (written rs)) same)
