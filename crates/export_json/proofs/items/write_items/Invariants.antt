use Rattle.std.proofs.Common.{◌≡◌, ◌++◌, take}
use Rattle.cov_history.specs.Nodes.{children}
use Rattle.json_text.specs.Values.{all_tokens}
use Rattle.merge_store.specs.Now.{nodes_now}
use Rattle.merge_store.specs.Stores.{opening_of, entries_of}
use Rattle.export_json.specs.Export.{item_value}
use Rattle.export_json.proofs.items.write_items.Given as goal

abbrev pub invariant-loop-item : goal.invariant-loop-item
invariant-loop-item l = l.out ≡ l.initial.out ++ all_tokens (item_value (opening_of l.store) (entries_of l.store)) (take l.item-index (children (nodes_now l.store) l.node))
