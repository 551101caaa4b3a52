use Rattle.std.proofs.Common.{length}
use Rattle.trans_auto.proofs.steps.+seqs_inside.Given as goal

abbrev pub decreases-seqs_inside : goal.decreases-seqs_inside
decreases-seqs_inside l = length l.seqs.now
