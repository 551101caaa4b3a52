use Rattle.std.proofs.Common.{◌≡◌, ◌++◌, take}
use Rattle.cov_history.specs.Nodes.{bins_under}
use Rattle.json_text.specs.Values.{all_tokens}
use Rattle.merge_store.specs.Now.{nodes_now}
use Rattle.merge_store.specs.Stores.{opening_of, entries_of}
use Rattle.export_json.specs.Export.{bin_value}
use Rattle.export_json.proofs.bins.write_bins.Given as goal

abbrev pub invariant-loop-bin : goal.invariant-loop-bin
invariant-loop-bin l = l.out ≡ l.initial.out ++ all_tokens (bin_value (opening_of l.store) (entries_of l.store)) (take l.bin-index (bins_under (nodes_now l.store) l.node))
