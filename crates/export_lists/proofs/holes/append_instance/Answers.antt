use Rattle.std.proofs.Common.{◌++◌, ◌∙◌}
use Rattle.std.specs.List.{flat_map, enumerate_from}
use Rattle.merge_store.specs.Now.{nodes_now, count_now, excluded_now}
use Rattle.export_lists.specs.Holes.{lines_of_item}
use Rattle.export_lists.proofs.holes.append_instance.Goals as goal

pub returns : goal.returns
returns c =
    c.in_ok-append_items.ensures
    ∙ (λ i. c.args.text.now.items ++ flat_map (λ item. lines_of_item (nodes_now c.args.store.now) (count_now c.args.store.now) (excluded_now c.args.store.now) (c.items_at-items.ensures i) item.0 item.1) (enumerate_from 0 (c.children-below.ensures.children i)))
