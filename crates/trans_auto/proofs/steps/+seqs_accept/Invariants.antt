use Rattle.std.proofs.Common.{length}
use Rattle.trans_auto.proofs.steps.+seqs_accept.Given as goal

abbrev pub decreases-seqs_accept : goal.decreases-seqs_accept
decreases-seqs_accept l = length l.cells.now
