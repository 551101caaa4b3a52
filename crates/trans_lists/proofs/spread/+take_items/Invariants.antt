use Rattle.std.proofs.Common.{◌≡◌, ◌+◌, ◌*◌, length, take}
use Rattle.cov_base.specs.Sets.{written}
use Rattle.trans_found.specs.Found.{Takes, lists_of}
use Rattle.trans_found.specs.Held.{begun_by, AreHeld}
use Rattle.trans_lists.proofs.spread.+take_items.Given as goal

abbrev pub decreases-take_items : goal.decreases-take_items
decreases-take_items l = 3 * length l.items.now

abbrev pub decreases-take_unknown : goal.decreases-take_unknown
decreases-take_unknown l = 3 * length l.rest.now + 2

abbrev pub decreases-take_numbers : goal.decreases-take_numbers
decreases-take_numbers l = 3 * length l.rest.now + 1

abbrev pub invariant-take_numbers-loop-k : goal.invariant-take_numbers-loop-k
invariant-take_numbers-loop-k l = record {
  first : l.first.items ≡ l.initial.first.items;
  takes : Takes l.initial.found l.found (begun_by l.initial.first.items (take l.k (written l.set)) l.rest);
  held : AreHeld l.known (lists_of l.found);
}
