use Rattle.std.proofs.Common.{length}
use Rattle.trans_auto.proofs.steps.+items_inside.Given as goal

abbrev pub decreases-items_inside : goal.decreases-items_inside
decreases-items_inside l = length l.items.now
