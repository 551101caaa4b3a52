use Rattle.std.proofs.Common.{length}
use Rattle.trans_auto.proofs.steps.+items_enter.Given as goal

abbrev pub decreases-items_enter : goal.decreases-items_enter
decreases-items_enter l = length l.cells.now
