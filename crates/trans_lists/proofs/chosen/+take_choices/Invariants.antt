use Rattle.std.proofs.Common.{◌≡◌, ◌+◌, ◌-◌, ◌*◌, length, take}
use Rattle.std.specs.List.{flat_map}
use Rattle.trans_found.specs.Found.{Takes, lists_of}
use Rattle.trans_found.specs.Held.{AreHeld}
use Rattle.trans_found.specs.Lists.{from_on}
use Rattle.trans_lists.proofs.ChosenLemmas.{sized}
use Rattle.trans_lists.proofs.chosen.+take_choices.Given as goal

abbrev pub decreases-take_choices : goal.decreases-take_choices
decreases-take_choices l = 3 * length l.items.now

abbrev pub decreases-take_sizes : goal.decreases-take_sizes
decreases-take_sizes l = 3 * length l.behind.now + 2

abbrev pub decreases-take_size : goal.decreases-take_size
decreases-take_size l = 3 * length l.behind.now + 1

abbrev pub invariant-take_sizes-loop-k : goal.invariant-take_sizes-loop-k
invariant-take_sizes-loop-k l = record {
  front : l.front.items ≡ l.initial.front.items;
  takes : Takes l.initial.found l.found (flat_map (sized l.initial.front.items l.item l.behind) (take l.k (from_on l.low (l.high + 1 - l.low))));
  held : AreHeld l.known (lists_of l.found);
}
