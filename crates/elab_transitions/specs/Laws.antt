-- Laws: what the bins of a declaration of transitions and their removal mean (IEEE 1800-2017, 19.5.2, 19.5.5, 19.5.6).
use Rattle.std.specs.Prelude.{◌≡◌, ◌≢◌, ◌↔◌, ℕ, ◌+◌, ◌≤◌, ℤ, List, length, Bool, true, false, Option, Ok, IsTrue, All, Any, Contains}
use Rattle.std.specs.List.{AllByRecursion, AllPairs, filter, list_any}
use Rattle.cov_ground.specs.Limits.{most_bins, most_cells}
use Rattle.cov_tree.specs.declared.bins.BinsDecl.{BinsDecl}
use Rattle.cov_tree.specs.declared.bins.Step.{Step}
use Rattle.const_eval.specs.Terms.{Term}
use Rattle.const_eval.specs.Scopes.{Levels}
use Rattle.trans_seq.specs.declared.seq.Seq.{Seq}
use Rattle.trans_seq.specs.Cells.{cells_of_seqs}
use Rattle.trans_lists.specs.Lists.{has_endless}
use Rattle.trans_seq.specs.Windows.{SomeHasWord}
use Rattle.design_data.specs.Bins.{seqs_of as seqs_of_rule}
use Rattle.design_data.specs.Laws.{AddsNoWindow}
use Rattle.design_data.specs.Left.{has_seq_left}
use Rattle.elab_values.specs.declared.domain.Domain.{Domain}
use Rattle.elab_values.specs.declared.made.Made.{Made}
use Rattle.elab_transitions.specs.declared.plans.Before.{Before}
use Rattle.elab_transitions.specs.declared.bins.TransBins.{TransBins}
use Rattle.elab_values.specs.Words.{is_array, kind_of}
use Rattle.elab_transitions.specs.Bins.{plan_of, list_bin, bins_made, trans_bins_of}
use Rattle.elab_transitions.specs.Tests.{in_some}
use Rattle.elab_transitions.specs.Removal.{removing_of, is_seq_left, is_trans_left}

-- the test of a list of known values says whether it is a list of one of the sequences
abbrev pub TestsLists : Type 0
TestsLists = (seqs : List Seq) (list : List ℤ) → IsTrue (in_some seqs list) ↔ SomeHasWord seqs list

-- the bins that removal leaves
abbrev pub bins_left : (ignored illegal : List Seq) → (array : Bool) → List Made → List Made
bins_left ignored illegal array bins = filter (λ made. is_trans_left ignored illegal array made.bin) bins

-- the list is one of the sequences', and none of the removing ones'
pub record IsKept (seqs removing : List Seq) (list : List ℤ) : Type 0 where
  pub held : SomeHasWord seqs list
  pub not_removed : SomeHasWord removing list → ⊥

-- The bins left of an array are those of the lists of known values that its sequences have and no removing sequence
-- has, each once.
pub record AreOfLists (seqs removing : List Seq) (bin_of : List ℤ → Made) (left : List Made) : Type 0 where
  pub each : (made : Made) → Contains left made → (list : List ℤ) × IsKept seqs removing list × (made ≡ bin_of list)
  pub all : (list : List ℤ) → IsKept seqs removing list → Contains left (bin_of list)
  pub once : AllPairs (λ a b. a ≢ b) left

abbrev pub ArrayIsItsLists : Type 0
ArrayIsItsLists = (b : BinsDecl) (declared : ℕ) (guard : Option Term) (seqs ignored illegal : List Seq) → list_any has_endless seqs ≡ false
    → AreOfLists seqs (removing_of (kind_of b.word) ignored illegal) (list_bin b declared guard) (bins_left ignored illegal true (bins_made b declared (plan_of true seqs) guard seqs))

-- A bin of a declaration that removal drops adds no window that isn't one of the removing sequences.
abbrev pub DroppedAddsNothing : Type 0
DroppedAddsNothing = (levels : Levels) (domain : Domain) (b : BinsDecl) (steps : List (List Step)) (before : Before) (made : TransBins) (bin : Made) (ignored illegal : List Seq)
    → trans_bins_of levels domain b steps before ≡ Ok made → Contains made.bins bin → is_trans_left ignored illegal (is_array b.size) bin.bin ≡ false
    → AddsNoWindow (seqs_of_rule bin.bin.rule) (removing_of bin.bin.kind ignored illegal)

-- A sequence without an item whose set is empty, which is no removing one.
pub record IsSeqLeft (removing : List Seq) (seq : Seq) : Type 0 where
  pub numbers : All (λ item. 1 ≤ length item.set) seq.items
  pub not_removing : Contains removing seq → ⊥

-- A scalar bin stays exactly where one of its sequences is such a one.
abbrev pub ScalarStays : Type 0
ScalarStays = (removing seqs : List Seq) → IsTrue (list_any (is_seq_left false removing) seqs) ↔ Any (IsSeqLeft removing) seqs

-- What a declaration's bins are within: its item has room for them, and each has 120 cells at most, and so do all
-- sequences of the point that take windows away.
pub record IsWithin (before : Before) (made : TransBins) : Type 0 where
  pub few : before.bins + length made.bins ≤ most_bins
  pub short : AllByRecursion (λ bin. cells_of_seqs (seqs_of_rule bin.bin.rule) ≤ most_cells) made.bins
  pub removing : made.removing ≡ before.removing + cells_of_seqs made.removed
  pub removing_short : made.removing ≤ most_cells

abbrev pub MadeIsWithin : Type 0
MadeIsWithin = (levels : Levels) (domain : Domain) (b : BinsDecl) (steps : List (List Step)) (before : Before) (made : TransBins)
    → trans_bins_of levels domain b steps before ≡ Ok made → IsWithin before made

-- A bin that removal leaves has a sequence left as each transition bin of a design has.
abbrev pub LeftHasSeq : Type 0
LeftHasSeq = (levels : Levels) (domain : Domain) (b : BinsDecl) (steps : List (List Step)) (before : Before) (made : TransBins) (bin : Made) (ignored illegal : List Seq)
    → trans_bins_of levels domain b steps before ≡ Ok made → Contains made.bins bin → IsTrue (is_trans_left ignored illegal (is_array b.size) bin.bin)
    → IsTrue (has_seq_left (removing_of bin.bin.kind ignored illegal) (seqs_of_rule bin.bin.rule))
