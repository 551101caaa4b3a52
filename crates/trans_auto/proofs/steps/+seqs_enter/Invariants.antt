use Rattle.std.proofs.Common.{length}
use Rattle.trans_auto.proofs.steps.+seqs_enter.Given as goal

abbrev pub decreases-seqs_enter : goal.decreases-seqs_enter
decreases-seqs_enter l = length l.cells.now
