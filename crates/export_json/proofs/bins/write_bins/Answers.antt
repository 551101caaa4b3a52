use Rattle.std.proofs.Common.{ℕ, List, length, ap, arith}
use Rattle.cov_history.specs.Nodes.{bins_under}
use Rattle.json_text.proofs.Parts.{array_written}
use Rattle.merge_store.specs.Now.{nodes_now}
use Rattle.merge_store.specs.Stores.{opening_of, entries_of}
use Rattle.export_json.specs.Export.{bin_value, bins_value}
use Rattle.export_json.proofs.bins.write_bins.Goals as goal

pub returns : goal.returns
unfolding bins_value
returns c =
    let end = c.loop-bin-test.false in
    let many = ap (λ (ns : List ℕ). length ns) c.bins_under-bin-items.ensures.bins in
    array_written (bin_value (opening_of c.args.store.now) (entries_of c.args.store.now)) (bins_under (nodes_now c.args.store.now) c.args.node) _ _ _ _ c.loop-bin.bin-index (omega (arith, end, many))
    c.in_ok-begin_array.ensures c.loop-bin.invariant c.in_ok-end_array.ensures
