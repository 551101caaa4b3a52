-- Filters of listed numbers (`with`, IEEE 1800-2017, 19.5.1.1).
use Rattle.std.specs.Prelude.{ℕ, ℤ, pos, List, [], length, filter, Bool, false, not, nat_le, Option, Some, None, Result, Ok, Err}
use Rattle.std.specs.Ordering.{int_eq}
use Rattle.cov_ground.specs.Limits.{most_values}
use Rattle.cov_tree.specs.declared.expr.Expr.{Expr}
use Rattle.cov_tree.specs.declared.bins.Right.{Right}
use Rattle.cov_tree.specs.declared.bins.Right.TheVariants as rights
use Rattle.const_eval.specs.Typs.{Typ}
use Rattle.const_eval.specs.Terms.{Term}
use Rattle.const_eval.specs.Scopes.{Levels, names_with}
use Rattle.const_eval.specs.Binding.{bound_of, first_signal}
use Rattle.const_eval.specs.Values.{value}
use Rattle.elab_base.specs.declared.fault.ElabKind.TheVariants as kind
use Rattle.elab_base.specs.Gives.{Refusal, ◌>>=◌, needs, lifted}

-- known, and not 0
abbrev pub is_nonzero : Option ℤ → Bool
is_nonzero None = false
is_nonzero (Some x) = not (int_eq x (pos 0))

-- the condition holds of the number: an unknown value keeps nothing
abbrev pub passes : Term → ℤ → Bool
passes term v = is_nonzero (value term [] (Some v))

-- the condition behind `with`
abbrev pub keep_of : Right → Option Expr
keep_of (rights.Ranges elems keep) = keep
keep_of (rights.Whole name keep) = Some keep
keep_of (rights.Trans seqs) = None
keep_of rights.Default = None
keep_of rights.DefaultSequence = None

-- Such a condition stands where a constant is needed, but for `item`.
abbrev pub no_signal : Option ℕ → Result (Unit {0}) Refusal
no_signal None = Ok tt
no_signal (Some at) = Err (kind.NotConstant, at)

-- the condition with its names bound: those of its place, and `item`, a number of the point's type
unfoldable pub condition_in : Levels → Typ → Expr → Result Term Refusal
condition_in levels typ e = do
  term ← lifted (bound_of (names_with (Some typ) levels) e)
  _ ← no_signal (first_signal false term)
  Ok term

unfoldable pub filter_in : Levels → Typ → Option Expr → Result (Option Term) Refusal
filter_in levels typ None = Ok None
filter_in levels typ (Some e) = do
  term ← condition_in levels typ e
  Ok (Some term)

-- the listed numbers that pass, of which 1,048,576 at most may be looked at
unfoldable pub kept_numbers : Option Term → List ℤ → ℕ → Result (List ℤ) Refusal
kept_numbers None numbers at = Ok numbers
kept_numbers (Some term) numbers at = do
  _ ← needs (nat_le (length numbers) most_values) kind.TooManyValues at
  Ok (filter (passes term) numbers)
