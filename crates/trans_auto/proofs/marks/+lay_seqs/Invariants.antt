use Rattle.std.proofs.Common.{length}
use Rattle.trans_auto.proofs.marks.+lay_seqs.Given as goal

abbrev pub decreases-lay_seqs : goal.decreases-lay_seqs
decreases-lay_seqs l = length l.seqs.now
