use Rattle.std.proofs.Common.{length}
use Rattle.trans_auto.proofs.marks.+lay_items.Given as goal

abbrev pub decreases-lay_items : goal.decreases-lay_items
decreases-lay_items l = length l.items.now
