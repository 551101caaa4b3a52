use Rattle.std.proofs.Common.{length}
use Rattle.cov_counting.proofs.crosses.+are_all_hit.Given as goal

abbrev pub decreases-are_all_hit : goal.decreases-are_all_hit
decreases-are_all_hit l = length l.axes.now
