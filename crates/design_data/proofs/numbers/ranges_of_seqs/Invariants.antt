use Rattle.std.proofs.Common.{◌≡◌, take}
use Rattle.design_data.proofs.Sums.{cut}
use Rattle.design_data.specs.Tested.{ranges_of_seqs}
use Rattle.design_data.proofs.numbers.ranges_of_seqs.Given as goal

abbrev pub invariant-loop-seq : goal.invariant-loop-seq
invariant-loop-seq l = l.sum ≡ cut (ranges_of_seqs (take l.seq-index l.seqs))
