-- The transition bins of one declaration: one of all its sequences, or one of each of their lists
-- (IEEE 1800-2017, 19.5.2).
use Rattle.std.specs.Prelude.{ℕ, ◌+◌, nat_le, ℤ, List, [], ◌∷◌, length, map, Bool, true, false, not, ◌&&◌, Option, Some, Result, Ok, if◌then◌else◌}
use Rattle.std.specs.List.{list_all, list_any}
use Rattle.cov_ground.specs.Limits.{most_bins, most_cells}
use Rattle.cov_tree.specs.declared.bins.BinsDecl.{BinsDecl}
use Rattle.cov_tree.specs.declared.bins.Step.{Step}
use Rattle.cov_tree.specs.declared.bins.Word.{Word}
use Rattle.cov_tree.specs.declared.bins.Word.TheVariants as words
use Rattle.const_eval.specs.Terms.{Term}
use Rattle.const_eval.specs.Scopes.{Levels}
use Rattle.trans_seq.specs.declared.seq.Seq.{Seq}
use Rattle.trans_seq.specs.Cells.{cells_of_items, cells_of_seqs}
use Rattle.trans_lists.specs.Lists.{goes_on, listed_by_all}
use Rattle.design_data.specs.declared.infos.BinKind.{BinKind}
use Rattle.design_data.specs.declared.infos.BinKind.TheVariants.{IllegalBin, IgnoreBin, DefaultBin}
use Rattle.design_data.specs.declared.infos.BinRule.{BinRule}
use Rattle.design_data.specs.declared.infos.BinRule.TheVariants.{Trans, DefaultSequence}
use Rattle.elab_base.specs.declared.fault.ElabKind.TheVariants as kind
use Rattle.elab_base.specs.Gives.{Refusal, ◌>>=◌, needs}
use Rattle.elab_base.specs.Steps.{guard_in}
use Rattle.elab_values.specs.declared.domain.Domain.{Domain}
use Rattle.elab_values.specs.declared.made.Made.{Made}
use Rattle.elab_transitions.specs.declared.plans.Before.{Before}
use Rattle.elab_transitions.specs.declared.plans.Plan.{Plan}
use Rattle.elab_transitions.specs.declared.plans.Plan.TheVariants as plans
use Rattle.elab_transitions.specs.declared.bins.TransBins.{TransBins}
use Rattle.elab_transitions.specs.declared.steps.ListedStep.{ListedStep}
use Rattle.elab_transitions.specs.Steps.{sequences_of, seqs_of}
use Rattle.elab_transitions.specs.Lists.{list_name, seq_of_list}
use Rattle.elab_values.specs.Words.{is_array, kind_of}

-- ---- words and sizes

-- of `default sequence`, which isn't to stand under `ignore_bins`
abbrev pub default_kind : Word → BinKind
default_kind words.Bins = DefaultBin
default_kind words.Illegal = IllegalBin
default_kind words.Ignore = IgnoreBin

-- whether the sequences of a declaration take windows away from other bins
abbrev pub is_removing : Word → Bool
is_removing words.Bins = false
is_removing words.Illegal = true
is_removing words.Ignore = true

-- ---- limits

-- a step has lists of any length
abbrev pub any_goes_on : List ListedStep → Bool
any_goes_on steps = list_any (λ step. goes_on step.repeat) steps

-- an array has no sequence with lists of any length
abbrev pub is_bounded : (array : Bool) → List (List ListedStep) → Bool
is_bounded array sequences = not (array && list_any any_goes_on sequences)

unfoldable pub is_within : Seq → Bool
is_within seq = nat_le (cells_of_items seq.items) most_cells

-- A bin has 120 cells at most: a scalar one by all its sequences, an element of an array by the greatest lengths of the
-- items of its sequence, even where a set is empty.
abbrev pub is_short : (array : Bool) → List Seq → Bool
is_short false seqs = nat_le (cells_of_seqs seqs) most_cells
is_short true seqs = list_all is_within seqs

-- how many cells a point's ignored and illegal sequences have, those of arrays as they are declared
abbrev pub removing_after : Word → ℕ → List Seq → ℕ
removing_after word before seqs = if is_removing word then before + cells_of_seqs seqs else before

-- together 120 at most
unfoldable pub removing_in : Word → ℕ → List Seq → ℕ → Result ℕ Refusal
removing_in word before seqs at = do
  _ ← needs (nat_le (removing_after word before seqs) most_cells) kind.TooLong at
  Ok (removing_after word before seqs)

abbrev pub plan_of : (array : Bool) → List Seq → Plan
plan_of false seqs = plans.One
plan_of true seqs = plans.Each (listed_by_all seqs)

abbrev pub bins_in : Plan → ℕ
bins_in plans.One = 1
bins_in (plans.Each lists) = length lists

-- an item has 65,536 bins at most, before anything is removed
unfoldable pub plan_in : (array : Bool) → List Seq → (have : ℕ) → ℕ → Result Plan Refusal
plan_in array seqs have at = do
  _ ← needs (nat_le (have + bins_in (plan_of array seqs)) most_bins) kind.TooManyBins at
  Ok (plan_of array seqs)

-- the bins that a declaration's sequences make, and how many cells take windows away then
unfoldable pub fitted : BinsDecl → Before → List Seq → Result (Plan × ℕ) Refusal
fitted b before seqs = do
  _ ← needs (is_short (is_array b.size) seqs) kind.TooLong b.at
  removing ← removing_in b.word before.removing seqs b.at
  plan ← plan_in (is_array b.size) seqs before.bins b.at
  Ok (plan, removing)

-- ---- bins

-- a bin of the declaration that stands at this place among those of its point
abbrev pub made_bin : List ℕ → BinKind → BinRule → Option Term → (at declared : ℕ) → Made
made_bin name kind rule guard at declared = record { bin = record { name = name; kind = kind; rule = rule; guard = guard }; at = at; declared = Some declared }

-- the bin of one list
abbrev pub list_bin : BinsDecl → (declared : ℕ) → Option Term → List ℤ → Made
list_bin b declared guard list = made_bin (list_name b.name list) (kind_of b.word) (Trans (seq_of_list list ∷ [])) guard b.at declared

unfoldable pub bins_made : BinsDecl → (declared : ℕ) → Plan → Option Term → List Seq → List Made
bins_made b declared plans.One guard seqs = made_bin b.name (kind_of b.word) (Trans seqs) guard b.at declared ∷ []
bins_made b declared (plans.Each lists) guard seqs = map (list_bin b declared guard) lists

abbrev pub removed_by : Word → List Seq → List Seq
removed_by word seqs = if is_removing word then seqs else []

unfoldable pub trans_made : BinsDecl → (declared : ℕ) → Plan → ℕ → Option Term → List Seq → TransBins
trans_made b declared plan removing guard seqs = record { bins = bins_made b declared plan guard seqs; removed = removed_by b.word seqs; removing = removing }

-- the bins of a declaration with these sequences and this guard
unfoldable pub seqs_binned : BinsDecl → Before → Option Term → List Seq → Result TransBins Refusal
seqs_binned b before guard seqs = do
  fit ← fitted b before seqs
  Ok (trans_made b before.declared fit.0 fit.1 guard seqs)

-- the bins of a declaration with these steps
unfoldable pub steps_binned : Levels → Domain → BinsDecl → Before → List (List ListedStep) → Result TransBins Refusal
steps_binned levels domain b before sequences = do
  guard ← guard_in levels b.guard
  _ ← needs (is_bounded (is_array b.size) sequences) kind.Unbounded b.at
  seqs ← seqs_of domain sequences b.at
  seqs_binned b before guard seqs

-- the bins of a declaration of transitions
unfoldable pub trans_bins_of : Levels → Domain → BinsDecl → List (List Step) → Before → Result TransBins Refusal
trans_bins_of levels domain b sequences before = do
  listed ← sequences_of levels domain b.wildcard sequences
  steps_binned levels domain b before listed

-- the bin of `default sequence`
unfoldable pub default_bin_of : Levels → BinsDecl → Before → Result Made Refusal
default_bin_of levels b before = do
  guard ← guard_in levels b.guard
  _ ← needs (nat_le (before.bins + 1) most_bins) kind.TooManyBins b.at
  Ok (made_bin b.name (default_kind b.word) DefaultSequence guard b.at before.declared)
