-- The bins of one declaration: one of all listed numbers, one of each, or so many over which they are spread
-- (IEEE 1800-2017, 19.5.1).
use Rattle.std.specs.Prelude.{ℕ, ◌+◌, ◌≤◌, nat_le, ℤ, pos, int_le, unsigned_abs, List, [], ◌∷◌, ◌++◌, length, map, filter, Bool, Option, Some, None, Result, Ok, if◌then◌else◌}
use Rattle.std.specs.Fmt.{decimal, signed_decimal}
use Rattle.cov_ground.specs.Limits.{most_bins}
use Rattle.cov_base.specs.Sets.{written, set_of, ascending}
use Rattle.bin_spec.specs.Parts.{parts}
use Rattle.cov_tree.specs.declared.bins.Size.{Size}
use Rattle.cov_tree.specs.declared.bins.Size.TheVariants as sizes
use Rattle.const_eval.specs.Terms.{Term}
use Rattle.const_eval.specs.Scopes.{Levels}
use Rattle.design_data.specs.declared.infos.BinRule.{BinRule}
use Rattle.design_data.specs.declared.infos.BinRule.TheVariants.{Values}
use Rattle.elab_base.specs.declared.fault.ElabKind.TheVariants as kind
use Rattle.elab_base.specs.Gives.{Refusal, ◌>>=◌, needs}
use Rattle.elab_base.specs.Steps.{number_in}
use Rattle.elab_values.specs.declared.made.Made.{Made}
use Rattle.elab_bins.specs.Filter.{passes}
use Rattle.elab_bins.specs.declared.plans.Head.{Head}
use Rattle.elab_bins.specs.declared.plans.Wanted.{Wanted}
use Rattle.elab_bins.specs.declared.plans.Wanted.TheVariants as wants
use Rattle.elab_bins.specs.declared.plans.Plan.{Plan}
use Rattle.elab_bins.specs.declared.plans.Plan.TheVariants as plans

-- what a declaration asks for; the number of bins is at least 1
unfoldable pub wanted_in : Levels → Size → ℕ → Result Wanted Refusal
wanted_in levels sizes.Scalar at = Ok wants.One
wanted_in levels sizes.Open at = Ok wants.Each
wanted_in levels (sizes.Fixed bins) at = do
  n ← number_in levels bins
  _ ← needs (int_le (pos 1) n) kind.ZeroBins at
  Ok (wants.Spread (unsigned_abs n))

abbrev pub IsWanted : Wanted → Type 0
IsWanted wants.One = Unit {0}
IsWanted wants.Each = Unit {0}
IsWanted (wants.Spread n) = 1 ≤ n

-- how many bins that is, empty ones too
abbrev pub bins_wanted : Wanted → List ℤ → ℕ
bins_wanted wants.One numbers = 1
bins_wanted wants.Each numbers = length (ascending numbers)
bins_wanted (wants.Spread n) numbers = n

abbrev pub plan_of : Wanted → List ℤ → Plan
plan_of wants.One numbers = plans.One
plan_of wants.Each numbers = plans.Each (ascending numbers)
plan_of (wants.Spread n) numbers = plans.Spread n

-- an item has 65,536 bins at most, before anything is removed
unfoldable pub planned : (have : ℕ) → Wanted → List ℤ → ℕ → Result Plan Refusal
planned have wanted numbers at = do
  _ ← needs (nat_le (have + bins_wanted wanted numbers) most_bins) kind.TooManyBins at
  Ok (plan_of wanted numbers)

-- how many bins a plan has
abbrev pub plan_bins : Plan → ℕ
plan_bins plans.One = 1
plan_bins (plans.Each numbers) = length numbers
plan_bins (plans.Spread n) = n

abbrev pub IsPlan : Plan → Type 0
IsPlan plans.One = Unit {0}
IsPlan (plans.Each numbers) = Unit {0}
IsPlan (plans.Spread n) = (1 ≤ n) × (n ≤ most_bins)

-- `name[index]`
unfoldable pub indexed : List ℕ → List ℕ → List ℕ
indexed name index = name ++ (91 ∷ (index ++ 93 ∷ []))

-- a bin of a declaration, or an automatic one
abbrev pub named_bin : Head → List ℕ → BinRule → Made
named_bin head name rule = record { bin = record { name = name; kind = head.kind; rule = rule; guard = head.guard }; at = head.at; declared = head.declared }

abbrev pub value_bin : Head → List ℕ → List (ℤ × ℤ) → Made
value_bin head name set = named_bin head name (Values set)

-- `b[v]`, v in decimal
abbrev pub single : Head → ℤ → Made
single head v = value_bin head (indexed head.name (signed_decimal v)) (set_of (written ((v, v) ∷ [])))

-- `b[j]`, from a place j on
abbrev pub part_bins : Head → ℕ → List (List (ℤ × ℤ)) → List Made
part_bins head j [] = []
part_bins head j (set ∷ sets) = value_bin head (indexed head.name (decimal j)) set ∷ part_bins head (j + 1) sets

-- the numbers of a set that pass a filter
abbrev pub set_filtered : Term → List (ℤ × ℤ) → List (ℤ × ℤ)
set_filtered term set = set_of (filter (passes term) (written set))

-- The numbers of the parts over which listed numbers are spread: a filter is applied before, or to each part, where
-- `type_option.distribute_first` says so (19.7.1).
abbrev pub parts_kept : (distribute : Bool) → Option Term → ℕ → (numbers kept : List ℤ) → List (List ℤ)
parts_kept distribute None n numbers kept = parts kept n
parts_kept distribute (Some term) n numbers kept = if distribute then map (filter (passes term)) (parts numbers n) else parts kept n

-- the bins of a declaration that lists numbers, of which a filter keeps some
unfoldable pub bins_made : (distribute : Bool) → Option Term → Plan → Head → (numbers kept : List ℤ) → List Made
bins_made distribute keep plans.One head numbers kept = value_bin head head.name (set_of kept) ∷ []
bins_made distribute keep (plans.Each distinct) head numbers kept = map (single head) distinct
bins_made distribute keep (plans.Spread n) head numbers kept = part_bins head 0 (map set_of (parts_kept distribute keep n numbers kept))
