use Rattle.std.proofs.Common.{◌≡◌, ◌++◌, drop}
use Rattle.std.specs.List.{flat_map, enumerate_from}
use Rattle.merge_store.specs.Now.{nodes_now, count_now, excluded_now}
use Rattle.export_lists.specs.Holes.{lines_of_item}
use Rattle.export_lists.proofs.holes.append_items.Given as goal

abbrev pub invariant-loop-place : goal.invariant-loop-place
invariant-loop-place l =
    l.text.items ++ flat_map (λ item. lines_of_item (nodes_now l.store) (count_now l.store) (excluded_now l.store) l.items item.0 item.1) (enumerate_from l.place (drop l.place l.below))
    ≡ l.initial.text.items ++ flat_map (λ item. lines_of_item (nodes_now l.store) (count_now l.store) (excluded_now l.store) l.items item.0 item.1) (enumerate_from 0 l.below)
