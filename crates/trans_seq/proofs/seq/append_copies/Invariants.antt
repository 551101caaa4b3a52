use Rattle.std.proofs.Common.{◌≡◌, ◌++◌, take}
use Rattle.trans_seq.proofs.seq.append_copies.Given as goal

abbrev pub invariant-loop-seq : goal.invariant-loop-seq
invariant-loop-seq l = l.copies.items ≡ l.initial.copies.items ++ take l.seq-index l.seqs
