use Rattle.std.proofs.Common.{take}
use Rattle.std.specs.Prelude.{Any}
use Rattle.trans_seq.specs.Windows.{InSeq}
use Rattle.cov_counting.proofs.points.in_some.Given as goal

abbrev pub invariant-loop-seq : goal.invariant-loop-seq
invariant-loop-seq l = Any (λ seq. InSeq seq.items l.window) (take l.seq-index l.seqs) → ⊥
