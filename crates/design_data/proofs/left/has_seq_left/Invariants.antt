use Rattle.std.proofs.Common.{◌≡◌, take, false}
use Rattle.design_data.specs.Left.{has_seq_left}
use Rattle.design_data.specs.Bins.{removing_seqs}
use Rattle.design_data.proofs.left.has_seq_left.Given as goal

abbrev pub invariant-loop-seq : goal.invariant-loop-seq
invariant-loop-seq l = has_seq_left (removing_seqs l.item l.kind) (take l.seq-index l.seqs) ≡ false
