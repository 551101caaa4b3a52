use Rattle.std.proofs.Common.{length}
use Rattle.trans_auto.proofs.steps.+items_accept.Given as goal

abbrev pub decreases-items_accept : goal.decreases-items_accept
decreases-items_accept l = length l.cells.now
