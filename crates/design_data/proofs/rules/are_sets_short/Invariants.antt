use Rattle.std.proofs.Common.{take}
use Rattle.design_data.specs.Limits.{AreSetsShort}
use Rattle.design_data.proofs.rules.are_sets_short.Given as goal

abbrev pub invariant-loop-seq : goal.invariant-loop-seq
invariant-loop-seq l = AreSetsShort (take l.seq-index l.seqs)
