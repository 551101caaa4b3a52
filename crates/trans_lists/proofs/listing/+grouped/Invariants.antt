use Rattle.std.proofs.Common.{◌+◌, ◌*◌, length}
use Rattle.trans_lists.proofs.listing.+grouped.Given as goal

abbrev pub decreases-grouped : goal.decreases-grouped
decreases-grouped l = 2 * length l.items.now + 1

abbrev pub decreases-varied : goal.decreases-varied
decreases-varied l = 2 * length l.items.now
