use Rattle.std.proofs.Common.{◌+◌, ◌*◌, length}
use Rattle.trans_found.proofs.held.+is_full.Given as goal

abbrev pub decreases-is_full : goal.decreases-is_full
decreases-is_full l = 2 * length l.items.now

abbrev pub decreases-is_full_behind : goal.decreases-is_full_behind
decreases-is_full_behind l = 2 * length l.items.now + 1
