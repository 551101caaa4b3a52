use Rattle.std.proofs.Common.{◌≡◌, ◌++◌, ◌+◌, ◌*◌, length, take}
use Rattle.cov_base.specs.Sets.{written}
use Rattle.trans_found.specs.Alone.{ahead, behind, behind_by}
use Rattle.trans_found.proofs.alone.+add_lists.Given as goal

abbrev pub decreases-add_lists : goal.decreases-add_lists
decreases-add_lists l = 2 * length l.items.now

abbrev pub decreases-add_numbers : goal.decreases-add_numbers
decreases-add_numbers l = 2 * length l.rest.now + 1

abbrev pub invariant-add_numbers-loop-k : goal.invariant-add_numbers-loop-k
invariant-add_numbers-loop-k l = record {
  first : l.first.items ≡ l.initial.first.items;
  added : l.lists.items ≡ l.initial.lists.items ++ behind_by l.initial.first.items (take l.k (written l.set)) (ahead l.rest (behind l.tail l.group));
}
