use Rattle.std.proofs.Common.{◌≡◌, drop}
use Rattle.std.specs.List.{list_any}
use Rattle.elab_crosses.specs.Selections.{meets_last}
use Rattle.elab_crosses.proofs.selections.some_meets.Given as goal

abbrev pub invariant-loop-seq : goal.invariant-loop-seq
invariant-loop-seq l = list_any (meets_last l.listed) (drop l.seq-index l.seqs) ≡ list_any (meets_last l.listed) l.seqs
