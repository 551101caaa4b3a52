use Rattle.std.proofs.Common.{◌≡◌, ◌++◌, take}
use Rattle.std.specs.List.{flat_map}
use Rattle.cov_history.specs.Nodes.{bins_under}
use Rattle.json_text.proofs.Parts.{tokens_if}
use Rattle.merge_store.specs.Now.{nodes_now, count_now}
use Rattle.merge_store.specs.Stores.{opening_of, entries_of}
use Rattle.store_views.specs.Views.{is_illegal_hit}
use Rattle.export_json.specs.Export.{illegal_value}
use Rattle.export_json.proofs.illegal.write_all_illegal.Given as goal

abbrev pub invariant-loop-bin : goal.invariant-loop-bin
invariant-loop-bin l =
    l.out ≡ l.initial.out ++ flat_map (tokens_if (illegal_value (opening_of l.store) (entries_of l.store)) (is_illegal_hit (nodes_now l.store) (count_now l.store))) (take l.bin-index (bins_under (nodes_now l.store) 0))
