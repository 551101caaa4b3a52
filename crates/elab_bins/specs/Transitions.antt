-- Transition bins and `default sequence` among the declarations of a point, and what removal leaves of them
-- (IEEE 1800-2017, 19.5.2, 19.5.5 and 19.5.6).
use Rattle.std.specs.Prelude.{ℕ, ◌+◌, List, [], ◌∷◌, ◌++◌, length, map, slice_get, Bool, false, Option, Some, None, Result, Ok, if◌then◌else◌}
use Rattle.std.specs.List.{flat_map}
use Rattle.std.specs.Option.{option_map_or}
use Rattle.name_map.specs.Names.{with_name}
use Rattle.cov_tree.specs.declared.bins.BinsDecl.{BinsDecl}
use Rattle.cov_tree.specs.declared.bins.Step.{Step}
use Rattle.cov_tree.specs.declared.bins.Word.{Word}
use Rattle.cov_tree.specs.declared.bins.Word.TheVariants as words
use Rattle.const_eval.specs.Scopes.{Levels}
use Rattle.trans_seq.specs.declared.seq.Seq.{Seq}
use Rattle.elab_base.specs.declared.names.What.TheVariants as what
use Rattle.elab_base.specs.Gives.{Refusal, ◌>>=◌}
use Rattle.elab_values.specs.declared.domain.Domain.{Domain}
use Rattle.elab_values.specs.declared.made.Made.{Made}
use Rattle.elab_transitions.specs.declared.plans.Before.{Before}
use Rattle.elab_transitions.specs.declared.bins.TransBins.{TransBins}
use Rattle.elab_values.specs.Words.{is_array}
use Rattle.elab_transitions.specs.Bins.{trans_bins_of, default_bin_of}
use Rattle.elab_transitions.specs.Removal.{is_trans_left}
use Rattle.elab_bins.specs.declared.walked.Entry.TheVariants.{Bin}
use Rattle.elab_bins.specs.declared.walked.Walked.{Walked}

-- what stands before a declaration
abbrev pub before : Walked → Before
before w = record { declared = length w.names; bins = w.count; removing = w.removing }

-- sequences that take windows away from other bins, with those of their word
abbrev pub seqs_kept : Word → List Seq → Walked → Walked
seqs_kept words.Bins seqs w = w
seqs_kept words.Illegal seqs w = record w { illegal_seqs = w.illegal_seqs ++ seqs }
seqs_kept words.Ignore seqs w = record w { ignored_seqs = w.ignored_seqs ++ seqs }

-- the bins of a declaration with its name, and how many cells take windows away with it
abbrev pub trans_listed : (name : List ℕ) → TransBins → Walked → Walked
trans_listed name made w = record w {
  known = with_name w.known name what.Bin;
  names = w.names ++ name ∷ [];
  entries = w.entries ++ map Bin made.bins;
  count = w.count + length made.bins;
  removing = made.removing;
}

-- the bins of a declaration, and the sequences that it takes away
unfoldable pub trans_added : BinsDecl → TransBins → Walked → Walked
trans_added b made w = seqs_kept b.word made.removed (trans_listed b.name made w)

unfoldable pub trans_declared : Levels → Domain → BinsDecl → List (List Step) → Walked → Result Walked Refusal
trans_declared levels domain b sequences w = do
  made ← trans_bins_of levels domain b sequences (before w)
  Ok (trans_added b made w)

-- one bin, with the name of its declaration
abbrev pub made_added : (name : List ℕ) → Made → Walked → Walked
made_added name made w = record w {
  known = with_name w.known name what.Bin;
  names = w.names ++ name ∷ [];
  entries = w.entries ++ Bin made ∷ [];
  count = w.count + 1;
}

unfoldable pub default_sequence_declared : Levels → BinsDecl → Walked → Result Walked Refusal
default_sequence_declared levels b w = do
  made ← default_bin_of levels b (before w)
  Ok (made_added b.name made w)

-- ---- removal

-- whether `[]` stands at the declaration of a bin, so that the bin has one list alone
abbrev pub in_array : List BinsDecl → (declared : Option ℕ) → Bool
in_array bs None = false
in_array bs (Some place) = option_map_or (λ b. is_array b.size) (slice_get bs place) false

-- the bin, if it has a transition left or is none of transitions
abbrev pub trans_left_of : List BinsDecl → (ignored illegal : List Seq) → Made → List Made
trans_left_of bs ignored illegal made = if is_trans_left ignored illegal (in_array bs made.declared) made.bin then made ∷ [] else []

unfoldable pub transitions_left : List BinsDecl → (ignored illegal : List Seq) → List Made → List Made
transitions_left bs ignored illegal bins = flat_map (trans_left_of bs ignored illegal) bins
