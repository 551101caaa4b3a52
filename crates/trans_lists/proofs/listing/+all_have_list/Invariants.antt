use Rattle.std.proofs.Common.{length}
use Rattle.trans_lists.proofs.listing.+all_have_list.Given as goal

abbrev pub decreases-all_have_list : goal.decreases-all_have_list
decreases-all_have_list l = length l.items.now
