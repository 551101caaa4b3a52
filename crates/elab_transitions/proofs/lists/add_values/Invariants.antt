use Rattle.std.proofs.Common.{◌≡◌, ◌++◌, map, take}
use Rattle.std.specs.List.{flat_map}
use Rattle.elab_transitions.specs.Lists.{arrowed, item_once}
use Rattle.elab_transitions.proofs.lists.add_values.Given as goal

abbrev pub invariant-loop-value : goal.invariant-loop-value
invariant-loop-value l = record {
  text : l.text.items ≡ l.initial.text.items ++ flat_map arrowed (take l.value-index l.list);
  items : l.items.items ≡ l.initial.items.items ++ map item_once (take l.value-index l.list);
}
