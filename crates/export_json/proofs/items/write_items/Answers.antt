use Rattle.std.proofs.Common.{ℕ, List, length, ap, arith}
use Rattle.cov_history.specs.Nodes.{children}
use Rattle.json_text.proofs.Parts.{array_written}
use Rattle.merge_store.specs.Now.{nodes_now}
use Rattle.merge_store.specs.Stores.{opening_of, entries_of}
use Rattle.export_json.specs.Export.{item_value, items_value}
use Rattle.export_json.proofs.items.write_items.Goals as goal

pub returns : goal.returns
unfolding items_value
returns c =
    let end = c.loop-item-test.false in
    let many = ap (λ (ns : List ℕ). length ns) c.children-item-items.ensures.children in
    array_written (item_value (opening_of c.args.store.now) (entries_of c.args.store.now)) (children (nodes_now c.args.store.now) c.args.node) _ _ _ _ c.loop-item.item-index (omega (arith, end, many))
    c.in_ok-begin_array.ensures c.loop-item.invariant c.in_ok-end_array.ensures
