use Rattle.std.proofs.Common.{◌≡◌, ◌≤◌, ◌+◌, ◌-◌, ◌^◌, min, drop}
use Rattle.trans_seq.specs.Cells.{cells_of_seqs}
use Rattle.trans_seq.proofs.size.cells_of_seqs.Given as goal

-- the sum so far and that of the sequences left give the result
abbrev pub invariant-loop-seq : goal.invariant-loop-seq
invariant-loop-seq l = record {
  left : min (l.sum + cells_of_seqs (drop l.seq-index l.seqs)) (2 ^ 64 - 1) ≡ min (cells_of_seqs l.seqs) (2 ^ 64 - 1);
  fits : l.sum ≤ 2 ^ 64 - 1;
}
