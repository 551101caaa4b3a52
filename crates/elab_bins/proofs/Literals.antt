-- Bins that keep patterns, and the numbers of their points.
use Rattle.std.proofs.Common.{◌≡◌, ◌∙◌, ℕ, ◌≤◌, ℤ, List, [], ◌∷◌, length, filter, refl, sym, ap, cond, Bool, true, false, arith, nat_lt}
use Rattle.std.specs.Prelude.{◌||◌}
use Rattle.std.specs.List.{list_any}
use Rattle.std.proofs.lemmas.Bool.Decides.{nat_tests}
use Rattle.cov_base.specs.Sets.{written}
use Rattle.wildcard_bins.specs.declared.pattern.Pattern.{Pattern}
use Rattle.wildcard_bins.specs.Patterns.{agrees}

any_step : (f : ℤ → Bool) (x : ℤ) (xs : List ℤ) (b : Bool) → list_any f xs ≡ nat_lt 0 (length (filter f xs)) → (b || list_any f xs) ≡ nat_lt 0 (length (cond b (x ∷ filter f xs) (filter f xs)))
any_step f x xs true h = grind (arith, nat_tests)
any_step f x xs false h = h

any_filter : (f : ℤ → Bool) (xs : List ℤ) → list_any f xs ≡ nat_lt 0 (length (filter f xs))
any_filter f [] = refl
any_filter f (x ∷ xs) = any_step f x xs (f x) (any_filter f xs)

-- some number agrees where their count isn't 0
pub some_agree : (pattern : Pattern) (numbers : List (ℤ × ℤ)) (count : ℕ) → count ≡ length (filter (agrees pattern) (written numbers)) → nat_lt 0 count ≡ list_any (agrees pattern) (written numbers)
some_agree pattern numbers count is = ap (nat_lt 0) is ∙ sym (any_filter (agrees pattern) (written numbers))

pub some_first : {X : Type 0} (f : X → Bool) (xs : List X) → list_any f xs ≡ true → 1 ≤ length xs
some_first f [] e = absurd cc
some_first f (x ∷ xs) e = omega arith
