use Rattle.std.proofs.Common.{length}
use Rattle.trans_found.proofs.alone.+count_ahead.Given as goal

abbrev pub decreases-count_ahead : goal.decreases-count_ahead
decreases-count_ahead l = length l.items.now
