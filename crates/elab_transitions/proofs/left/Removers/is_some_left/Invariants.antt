use Rattle.std.proofs.Common.{◌≡◌, take, false}
use Rattle.std.specs.List.{list_any}
use Rattle.elab_transitions.specs.Removal.{removing_of, is_seq_left}
use Rattle.elab_transitions.proofs.left.Removers.is_some_left.Given as goal

abbrev pub invariant-loop-seq : goal.invariant-loop-seq
invariant-loop-seq l = list_any (is_seq_left l.array (removing_of l.kind l.self.0 l.self.1)) (take l.seq-index l.seqs) ≡ false
