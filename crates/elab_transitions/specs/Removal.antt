-- What removal leaves of a point's transition bins (IEEE 1800-2017, 19.5.5 and 19.5.6).
use Rattle.std.specs.Prelude.{ℤ, List, [], ◌++◌, Bool, true, false, not, ◌&&◌, Option, Some, None}
use Rattle.std.specs.List.{list_any}
use Rattle.trans_seq.specs.declared.seq.Seq.{Seq}
use Rattle.trans_seq.specs.Words.{word_of}
use Rattle.design_data.specs.declared.infos.BinInfo.{BinInfo}
use Rattle.design_data.specs.declared.infos.BinKind.{BinKind}
use Rattle.design_data.specs.declared.infos.BinKind.TheVariants.{CvgBin, IllegalBin, IgnoreBin, DefaultBin}
use Rattle.design_data.specs.declared.infos.BinRule.{BinRule}
use Rattle.design_data.specs.declared.infos.BinRule.TheVariants.{Values, Patterns, Trans, Default, DefaultValues, DefaultSequence, Picked, Product}
use Rattle.design_data.specs.Left.{is_same_seq, has_lists}
use Rattle.elab_transitions.specs.Tests.{in_some}

-- the sequences that take windows away from bins of a kind: coverage bins lose what is ignored and what is illegal,
-- ignore bins what is illegal
abbrev pub removing_of : BinKind → (ignored illegal : List Seq) → List Seq
removing_of CvgBin ignored illegal = ignored ++ illegal
removing_of IgnoreBin ignored illegal = illegal
removing_of IllegalBin ignored illegal = []
removing_of DefaultBin ignored illegal = []

-- the only list of a sequence, if it has one, is among those of the removing sequences
abbrev pub is_removed : (removing : List Seq) → Option (List ℤ) → Bool
is_removed removing None = false
is_removed removing (Some list) = in_some removing list

-- Whether a sequence is left. That of an element of an array is unless its whole list is one of a removing sequence.
-- That of a scalar bin is where each of its items has a number and it is none of the removing ones item by item.
abbrev pub is_seq_left : (array : Bool) → (removing : List Seq) → Seq → Bool
is_seq_left true removing seq = not (is_removed removing (word_of seq.items))
is_seq_left false removing seq = has_lists seq && not (list_any (is_same_seq seq) removing)

abbrev pub is_rule_left : (array : Bool) → (removing : List Seq) → BinRule → Bool
is_rule_left array removing (Values set) = true
is_rule_left array removing (Patterns patterns) = true
is_rule_left array removing (Trans seqs) = list_any (is_seq_left array removing) seqs
is_rule_left array removing Default = true
is_rule_left array removing (DefaultValues set) = true
is_rule_left array removing DefaultSequence = true
is_rule_left array removing (Picked select) = true
is_rule_left array removing (Product members) = true

-- Whether a bin has a transition left, where it is a transition bin. Such a bin keeps all its sequences.
unfoldable pub is_trans_left : (ignored illegal : List Seq) → (array : Bool) → BinInfo → Bool
is_trans_left ignored illegal array bin = is_rule_left array (removing_of bin.kind ignored illegal) bin.rule
