-- The sets of patterns may have too many intervals, and ranges are written out.
use Rattle.std.proofs.Common.{◌≡◌, ℕ, ◌<◌, ◌≤◌, ℤ, append-nil, List, [], ◌∷◌, ◌++◌, length, true, false, refl, sym, ap, arith, Ok, Err}
use Rattle.std.specs.Prelude.{nat_le}
use Rattle.cov_ground.specs.Limits.{most_ranges}
use Rattle.cov_base.specs.Sets.{span, written, set_of}
use Rattle.value_bins.proofs.Written.{written-append, written-nil}
use Rattle.wildcard_bins.specs.declared.pattern.Pattern.{Pattern}
use Rattle.wildcard_bins.specs.Patterns.{agreeing}
use Rattle.elab_base.specs.declared.fault.ElabKind.{ElabKind}
use Rattle.elab_base.specs.declared.fault.ElabKind.TheVariants.{TooManyRanges}
use Rattle.elab_base.specs.Gives.{needs, each}
use Rattle.elab_base.proofs.Folds.{Left, left_begins}
use Rattle.elab_values.specs.declared.elements.Listed.{Listed}
use Rattle.elab_values.specs.Listed.{pattern_numbers, element_numbers, with_numbers}

pub too_wide : (kind : ElabKind) (n at : ℕ) → most_ranges < n → needs (nat_le n most_ranges) kind at ≡ Err (kind, at)
unfolding needs
too_wide kind n at lt = let e : nat_le n most_ranges ≡ false = grind (arith, lt) in rw e refl

pub not_too_wide : (kind : ElabKind) (n at : ℕ) → n ≤ most_ranges → needs (nat_le n most_ranges) kind at ≡ Ok tt
unfolding needs
not_too_wide kind n at le = let e : nat_le n most_ranges ≡ true = grind (arith, le) in rw e refl

-- ---- ranges written out

pub one_written : (r : ℤ × ℤ) → written (r ∷ []) ≡ span r
unfolding written
one_written r = append-nil (span r)

pub wide_refused : (pattern : Pattern) (at : ℕ) → most_ranges < length (set_of (agreeing pattern)) → pattern_numbers pattern at ≡ Err (TooManyRanges, at)
unfolding pattern_numbers
wide_refused pattern at lt = rw (too_wide TooManyRanges (length (set_of (agreeing pattern))) at lt) refl

pub numbers_added : (at : ℕ) (listed : Listed) (old next new : List (ℤ × ℤ)) → element_numbers listed at ≡ Ok (written next) → new ≡ old ++ next → with_numbers at listed (written old) ≡ Ok (written new)
unfolding with_numbers
numbers_added at listed old next new e added = rw (e, added) (ap (λ (xs : List ℤ). Ok xs) (sym (written-append old next)))

pub numbers_begin : (at : ℕ) (elements : List Listed) (ranges : List (ℤ × ℤ)) → ranges ≡ [] → Left (λ k. with_numbers at) 0 elements (written ranges) (each (with_numbers at) elements [])
numbers_begin at elements ranges e = rw (e, written-nil) (left_begins (λ k. with_numbers at) elements [])
