use Rattle.std.proofs.Common.{length}
use Rattle.trans_auto.proofs.marks.+mark_seqs.Given as goal

abbrev pub decreases-mark_seqs : goal.decreases-mark_seqs
decreases-mark_seqs l = length l.seqs.now
