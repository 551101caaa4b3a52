-- What filters keep of numbers.
use Rattle.std.proofs.Common.{◌≡◌, ℕ, ◌<◌, ◌≤◌, ℤ, List, length, filter, refl, arith, true, false, Some, Result, Ok, Err}
use Rattle.std.specs.Prelude.{nat_le, IfOk}
use Rattle.cov_ground.specs.Limits.{most_values}
use Rattle.const_eval.specs.Terms.{Term}
use Rattle.elab_base.specs.declared.fault.ElabKind.TheVariants as kind
use Rattle.elab_base.specs.Gives.{needs}
use Rattle.elab_bins.specs.Filter.{passes, kept_numbers}

-- what holds of a value holds where it is one
pub if_kept : {E : Type 0} (r : Result (List (ℤ × ℤ)) E) (P Q : List (ℤ × ℤ) → Type 0) → ((x : List (ℤ × ℤ)) → P x → Q x) → IfOk r P → IfOk r Q
if_kept (Ok x) P Q f h = f x h
if_kept (Err e) P Q f h = tt

pub few_kept : (term : Term) (numbers kept : List ℤ) (at : ℕ) → length numbers ≤ most_values → kept ≡ filter (passes term) numbers → kept_numbers (Some term) numbers at ≡ Ok kept
unfolding kept_numbers needs
few_kept term numbers kept at le is =
    let e : nat_le (length numbers) most_values ≡ true = grind (arith, le) in
    rw (e, is) refl

pub many_refused : (term : Term) (numbers : List ℤ) (at : ℕ) → most_values < length numbers → kept_numbers (Some term) numbers at ≡ Err (kind.TooManyValues, at)
unfolding kept_numbers needs
many_refused term numbers at lt =
    let e : nat_le (length numbers) most_values ≡ false = grind (arith, lt) in
    rw e refl
