-- The declarations of bins of a point, in order, before anything is removed (IEEE 1800-2017, 19.5).
use Rattle.std.specs.Prelude.{ℕ, ◌+◌, ℤ, List, [], ◌∷◌, ◌++◌, length, map, Bool, true, false, nat_le, nat_eq, Option, Some, Result, Ok, if◌then◌else◌}
use Rattle.std.specs.Cmp.Lexicographic.{pointwise}
use Rattle.cov_ground.specs.Limits.{most_bins}
use Rattle.name_map.specs.Names.{with_name}
use Rattle.cov_base.specs.Sets.{set_of}
use Rattle.cov_tree.specs.declared.bins.Right.{Right}
use Rattle.cov_tree.specs.declared.bins.Right.TheVariants as rights
use Rattle.cov_tree.specs.declared.bins.Size.{Size}
use Rattle.cov_tree.specs.declared.bins.Size.TheVariants as sizes
use Rattle.cov_tree.specs.declared.bins.Word.{Word}
use Rattle.cov_tree.specs.declared.bins.Word.TheVariants as words
use Rattle.cov_tree.specs.declared.bins.BinsDecl.{BinsDecl}
use Rattle.const_eval.specs.Terms.{Term}
use Rattle.const_eval.specs.Scopes.{Levels}
use Rattle.design_data.specs.declared.infos.BinKind.{BinKind}
use Rattle.design_data.specs.declared.infos.BinKind.TheVariants.{CvgBin, IllegalBin, IgnoreBin, DefaultBin}
use Rattle.design_data.specs.declared.infos.BinRule.{BinRule}
use Rattle.design_data.specs.declared.infos.BinRule.TheVariants.{Default}
use Rattle.elab_base.specs.declared.fault.ElabKind.TheVariants as kind
use Rattle.elab_base.specs.declared.names.What.TheVariants as what
use Rattle.elab_base.specs.Gives.{Refusal, ◌>>=◌, needs, each}
use Rattle.elab_base.specs.Steps.{unused, guard_in}
use Rattle.elab_values.specs.declared.domain.Domain.{Domain}
use Rattle.elab_values.specs.declared.elements.Listed.{Listed}
use Rattle.elab_values.specs.declared.elements.Listed.TheVariants.{Range}
use Rattle.elab_values.specs.declared.made.Made.{Made}
use Rattle.elab_values.specs.Listed.{listed_in}
use Rattle.elab_bins.specs.declared.walked.Entry.TheVariants.{Bin, Rest}
use Rattle.elab_bins.specs.declared.walked.Walked.{Walked}
use Rattle.elab_bins.specs.declared.plans.Head.{Head}
use Rattle.elab_bins.specs.declared.plans.Manner.{Manner}
use Rattle.elab_bins.specs.declared.plans.Wanted.{Wanted}
use Rattle.elab_bins.specs.Wildcards.{is_kept, patterns_in, pattern_rule, numbers_in}
use Rattle.elab_bins.specs.Filter.{keep_of, filter_in, kept_numbers}
use Rattle.elab_bins.specs.Transitions.{trans_declared, made_added, default_sequence_declared}
use Rattle.elab_bins.specs.Made.{wanted_in, planned, plan_bins, named_bin, bins_made}
use Rattle.elab_values.specs.Words.{kind_of}

abbrev pub is_ignore : BinKind → Bool
is_ignore CvgBin = false
is_ignore IllegalBin = false
is_ignore IgnoreBin = true
is_ignore DefaultBin = false

abbrev pub is_illegal : BinKind → Bool
is_illegal CvgBin = false
is_illegal IllegalBin = true
is_illegal IgnoreBin = false
is_illegal DefaultBin = false

-- ---- a declaration's entry: what its words alone tell

abbrev pub is_same_name : List ℕ → List ℕ → Bool
is_same_name a b = pointwise nat_eq a b

-- `name with` names its point
abbrev pub names_point : (name : List ℕ) → Right → Bool
names_point name (rights.Whole other keep) = is_same_name other name
names_point name (rights.Ranges elems keep) = true
names_point name (rights.Trans seqs) = true
names_point name rights.Default = true
names_point name rights.DefaultSequence = true

abbrev pub is_default : Right → Bool
is_default (rights.Ranges elems keep) = false
is_default (rights.Whole name keep) = false
is_default (rights.Trans seqs) = false
is_default rights.Default = true
is_default rights.DefaultSequence = true

-- no ignore bin is `default` or `default sequence`
abbrev pub may_default : Word → Right → Bool
may_default words.Bins right = true
may_default words.Illegal right = true
may_default words.Ignore right = if is_default right then false else true

unfoldable pub entered : (name : List ℕ) → BinsDecl → Walked → Result (Unit {0}) Refusal
entered name b w = do
  _ ← unused w.known b.name b.at
  _ ← needs (names_point name b.right) kind.NotThisPoint b.at
  needs (may_default b.word b.right) kind.IgnoreDefault b.at

-- ---- bins of values

-- all numbers of the point, as `name with` lists them
abbrev pub whole_elements : List (ℤ × ℤ) → List Listed
whole_elements set = map (λ r. Range r.0 r.1) set

unfoldable pub elements_in : Levels → Domain → (wildcard : Bool) → Right → Result (List Listed) Refusal
elements_in levels domain wildcard (rights.Ranges elems keep) = listed_in levels domain wildcard elems
elements_in levels domain wildcard (rights.Whole name keep) = Ok (whole_elements domain.numbers)
elements_in levels domain wildcard (rights.Trans seqs) = Ok []
elements_in levels domain wildcard rights.Default = Ok []
elements_in levels domain wildcard rights.DefaultSequence = Ok []

-- what is removed or listed, with the set of a declaration where it is of the kind that is meant
abbrev pub with_set : Bool → List (ℤ × ℤ) → List ℤ → List (ℤ × ℤ)
with_set true ranges numbers = ranges ++ set_of numbers
with_set false ranges numbers = ranges

-- what the bins of a declaration have in common
abbrev pub head_of : BinsDecl → BinKind → Option Term → Walked → Head
head_of b kind guard w = record { name = b.name; kind = kind; guard = guard; at = b.at; declared = Some (length w.names) }

-- a declaration's bins, with its name, and what it lists and removes
unfoldable pub bins_added : Head → (count : ℕ) → (bins : List Made) → (kept : List ℤ) → Walked → Walked
bins_added head count bins kept w = record w {
  known = with_name w.known head.name what.Bin;
  names = w.names ++ head.name ∷ [];
  entries = w.entries ++ map Bin bins;
  count = w.count + count;
  listed = with_set true w.listed kept;
  ignored = with_set (is_ignore head.kind) w.ignored kept;
  illegal = with_set (is_illegal head.kind) w.illegal kept;
}

unfoldable pub values_binned : Domain → (distribute : Bool) → Option Term → Wanted → List Listed → Head → Walked → Result Walked Refusal
values_binned domain distribute keep wanted elements head w = do
  numbers ← numbers_in domain keep elements head.at
  kept ← kept_numbers keep numbers head.at
  plan ← planned w.count wanted kept head.at
  Ok (bins_added head (plan_bins plan) (bins_made distribute keep plan head numbers kept) kept w)

-- one bin, with the name of its declaration
unfoldable pub one_added : Head → BinRule → Walked → Walked
one_added head rule w = made_added head.name (named_bin head head.name rule) w

-- one bin of this rule, which lists nothing that an array of `default` has to know
unfoldable pub rule_added : Head → BinRule → Walked → Result Walked Refusal
rule_added head rule w = do
  _ ← needs (nat_le (w.count + 1) most_bins) kind.TooManyBins head.at
  Ok (one_added head rule w)

-- the bins of elements: of their patterns, where these are kept, and else of the numbers that they list
unfoldable pub listed_binned : Domain → Manner → Option Term → Wanted → List Listed → Head → Walked → Result Walked Refusal
listed_binned domain manner keep wanted elements head w =
    if is_kept manner.patterns head.kind keep wanted elements
    then rule_added head (pattern_rule domain (patterns_in elements)) w
    else values_binned domain manner.distribute keep wanted elements head w

unfoldable pub elements_binned : Levels → Domain → Manner → BinsDecl → List Listed → Walked → Result Walked Refusal
elements_binned levels domain manner b elements w = do
  keep ← filter_in levels domain.typ (keep_of b.right)
  wanted ← wanted_in levels b.size b.at
  guard ← guard_in levels b.guard
  listed_binned domain manner keep wanted elements (head_of b (kind_of b.word) guard w) w

unfoldable pub values_declared : Levels → Domain → Manner → BinsDecl → Walked → Result Walked Refusal
values_declared levels domain manner b w = do
  elements ← elements_in levels domain b.wildcard b.right
  elements_binned levels domain manner b elements w

-- ---- `default`, which lists and removes nothing

abbrev pub default_kind : Word → BinKind
default_kind words.Bins = DefaultBin
default_kind words.Illegal = IllegalBin
default_kind words.Ignore = DefaultBin

-- a bin for each number that is listed nowhere: which these are is known at the end of the point
unfoldable pub rest_added : Head → Walked → Walked
rest_added head w = record w {
  known = with_name w.known head.name what.Bin;
  names = w.names ++ head.name ∷ [];
  entries = w.entries ++ Rest head ∷ [];
}

abbrev pub default_sized : Size → Head → Walked → Result Walked Refusal
default_sized sizes.Open head w = Ok (rest_added head w)
default_sized sizes.Scalar head w = rule_added head Default w
default_sized (sizes.Fixed bins) head w = rule_added head Default w

unfoldable pub default_declared : Levels → BinsDecl → Walked → Result Walked Refusal
default_declared levels b w = do
  guard ← guard_in levels b.guard
  default_sized b.size (head_of b (default_kind b.word) guard w) w

-- ---- declarations

abbrev pub declared_by : Levels → Domain → Manner → BinsDecl → Walked → Right → Result Walked Refusal
declared_by levels domain manner b w (rights.Ranges elems keep) = values_declared levels domain manner b w
declared_by levels domain manner b w (rights.Whole name keep) = values_declared levels domain manner b w
declared_by levels domain manner b w (rights.Trans seqs) = trans_declared levels domain b seqs w
declared_by levels domain manner b w rights.Default = default_declared levels b w
declared_by levels domain manner b w rights.DefaultSequence = default_sequence_declared levels b w

unfoldable pub bins_declared : Levels → Domain → (name : List ℕ) → Manner → BinsDecl → Walked → Result Walked Refusal
bins_declared levels domain name manner b w = do
  _ ← entered name b w
  declared_by levels domain manner b w b.right

abbrev pub no_bins : Walked
no_bins = record { known = []; names = []; entries = []; count = 0; listed = []; ignored = []; illegal = []; ignored_seqs = []; illegal_seqs = []; removing = 0 }

unfoldable pub bins_walked : Levels → Domain → (name : List ℕ) → Manner → List BinsDecl → Result Walked Refusal
bins_walked levels domain name manner bs = each (bins_declared levels domain name manner) bs no_bins
