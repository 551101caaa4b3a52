-- Sets from which removal takes nothing.
use Rattle.std.proofs.Common.{◌≡◌, List, [], ◌∷◌, length, refl, ap, sym, ◌∙◌, arith, not}
use Rattle.std.specs.Prelude.{ℤ, filter}
use Rattle.cov_base.specs.Sets.{written, set_of, without, is_in}
use Rattle.elab_bins.specs.Left.{set_left}

no_ranges : (ranges : List (ℤ × ℤ)) → length ranges ≡ 0 → ranges ≡ []
no_ranges [] e = refl
no_ranges (r ∷ rs) e = absurd (omega arith)

all_kept : (xs : List ℤ) → filter (λ v. not (is_in [] v)) xs ≡ xs
all_kept [] = refl
all_kept (x ∷ xs) = ap (λ l. x ∷ l) (all_kept xs)

nothing_without : (xs : List ℤ) → without xs (written []) ≡ xs
unfolding without written
nothing_without xs = all_kept xs

of_nothing : (removed : List (ℤ × ℤ)) → [] ≡ set_left removed []
unfolding set_of without written
of_nothing removed = refl

-- the empty set has nothing to lose
pub none_to_lose : (removed set : List (ℤ × ℤ)) → length set ≡ 0 → set ≡ set_left removed set
none_to_lose removed set e = let same = no_ranges set e in same ∙ (of_nothing removed ∙ ap (set_left removed) (sym same))

-- a set in normal form from which nothing is removed
pub none_removed : (removed set : List (ℤ × ℤ)) → set_of (written set) ≡ set → length removed ≡ 0 → set ≡ set_left removed set
none_removed removed set normal e = sym (ap (λ r. set_left r set) (no_ranges removed e) ∙ (ap set_of (nothing_without (written set)) ∙ normal))
