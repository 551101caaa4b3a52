-- Literals with digits x, z or ? in bins of values (IEEE 1800-2017, 19.5.4): which bins keep their patterns, and how many
-- numbers such literals list.
use Rattle.std.specs.Prelude.{ℕ, ℤ, List, [], ◌∷◌, length, filter, Bool, true, false, not, nat_le, Option, Some, None, is_some, Result, Ok, Err, if◌then◌else◌}
use Rattle.std.specs.List.{flat_map, list_all, list_any}
use Rattle.cov_ground.specs.Limits.{most_values}
use Rattle.cov_base.specs.Sets.{span, written, is_in}
use Rattle.cov_tree.specs.declared.bins.Right.{Right}
use Rattle.cov_tree.specs.declared.bins.Right.TheVariants as rights
use Rattle.cov_tree.specs.declared.bins.BinsDecl.{BinsDecl}
use Rattle.const_eval.specs.Terms.{Term}
use Rattle.wildcard_bins.specs.declared.pattern.Pattern.{Pattern}
use Rattle.wildcard_bins.specs.Patterns.{agrees}
use Rattle.design_data.specs.Bins.{total}
use Rattle.design_data.specs.Bins.{is_coverage as is_coverage_kind}
use Rattle.design_data.specs.declared.infos.BinKind.{BinKind}
use Rattle.design_data.specs.declared.infos.BinRule.{BinRule}
use Rattle.design_data.specs.declared.infos.BinRule.TheVariants.{Values, Patterns}
use Rattle.elab_base.specs.declared.fault.ElabKind.TheVariants as kind
use Rattle.elab_base.specs.Gives.{Refusal, ◌>>=◌, needs}
use Rattle.elab_values.specs.declared.domain.Domain.{Domain}
use Rattle.elab_values.specs.declared.elements.Listed.{Listed}
use Rattle.elab_values.specs.declared.elements.Listed.TheVariants.{Range, Agreeing}
use Rattle.elab_values.specs.declared.made.Settings.{Settings}
use Rattle.elab_values.specs.Listed.{numbers_listed}
use Rattle.elab_bins.specs.declared.plans.Manner.{Manner}
use Rattle.elab_bins.specs.declared.plans.Wanted.{Wanted}
use Rattle.elab_bins.specs.declared.plans.Wanted.TheVariants as wants
use Rattle.elab_bins.specs.Automatic.{is_coverage}
use Rattle.elab_values.specs.Words.{is_array}

-- ---- points

-- The other bins of a point have to be sets of numbers beside this declaration: it has ignored or illegal values, even
-- none, or is an array of `default`.
abbrev pub wants_sets : BinsDecl → Right → Bool
wants_sets b (rights.Ranges elems keep) = not (is_coverage b.word)
wants_sets b (rights.Whole name keep) = not (is_coverage b.word)
wants_sets b (rights.Trans seqs) = false
wants_sets b rights.Default = is_array b.size
wants_sets b rights.DefaultSequence = false

-- Whether the scalar wildcard bins of a point keep their patterns: the point isn't enumerated, no cross has `intersect` on
-- it, and none of its declarations wants sets.
abbrev pub keeps_patterns : Domain → Settings → List BinsDecl → Bool
keeps_patterns domain settings bs =
    if is_some domain.constants then false
    else (if settings.intersected then false
    else not (list_any (λ b. wants_sets b b.right) bs))

-- how a point with these declarations makes bins of values
abbrev pub manner_of : Domain → Settings → List BinsDecl → Manner
manner_of domain settings bs = record { distribute = settings.distribute_first; patterns = keeps_patterns domain settings bs }

-- ---- bins

abbrev pub is_one : Wanted → Bool
is_one wants.One = true
is_one wants.Each = false
is_one (wants.Spread n) = false

-- the element is a literal with such digits by itself
abbrev pub is_literal : Listed → Bool
is_literal (Range low high) = false
is_literal (Agreeing pattern) = true

-- whether a bin keeps its patterns: a scalar coverage bin of such literals alone, without a filter
abbrev pub is_kept : (patterns : Bool) → BinKind → Option Term → Wanted → List Listed → Bool
is_kept patterns bin_kind keep wanted elements =
    if is_some keep then false
    else (if patterns then (if is_coverage_kind bin_kind then (if is_one wanted then list_all is_literal elements else false) else false)
    else false)

abbrev pub literal_patterns : Listed → List Pattern
literal_patterns (Range low high) = []
literal_patterns (Agreeing pattern) = pattern ∷ []

abbrev pub patterns_in : List Listed → List Pattern
patterns_in elements = flat_map literal_patterns elements

-- some number of the point agrees with the pattern
abbrev pub has_number : Domain → Pattern → Bool
has_number domain pattern = list_any (agrees pattern) (written domain.numbers)

-- the patterns, or the empty set where no number of the point agrees with one of them
abbrev pub pattern_rule : Domain → List Pattern → BinRule
pattern_rule domain patterns = if list_any (has_number domain) patterns then Patterns patterns else Values []

-- ---- limits

-- how many numbers of the point an element lists
abbrev pub element_count : Domain → Listed → ℕ
element_count domain (Range low high) = length (filter (is_in (written domain.numbers)) (span (low, high)))
element_count domain (Agreeing pattern) = length (filter (agrees pattern) (written domain.numbers))

abbrev pub values_count : Domain → List Listed → ℕ
values_count domain elements = total (element_count domain) elements

unfoldable pub few_values : Domain → List Listed → ℕ → Result (Unit {0}) Refusal
few_values domain elements at = needs (nat_le (values_count domain elements) most_values) kind.TooManyValues at

-- The limit of values stands before that of ranges: numbers that a filter has to look at are counted also where the set
-- of a literal has too many ranges.
abbrev pub values_first : Domain → Option Term → List Listed → ℕ → Result (List ℤ) Refusal → Result (List ℤ) Refusal
values_first domain keep elements at (Ok numbers) = Ok numbers
values_first domain None elements at (Err fault) = Err fault
values_first domain (Some term) elements at (Err fault) = do
  _ ← few_values domain elements at
  Err fault

unfoldable pub numbers_in : Domain → Option Term → List Listed → ℕ → Result (List ℤ) Refusal
numbers_in domain keep elements at = values_first domain keep elements at (numbers_listed domain elements at)
