use Rattle.std.proofs.Common.{◌≡◌, ◌++◌, take}
use Rattle.std.specs.List.{flat_map}
use Rattle.cov_history.specs.Nodes.{bins_under}
use Rattle.merge_store.specs.Now.{nodes_now, count_now, excluded_now}
use Rattle.store_waivers.specs.Lines.{line_of_hit}
use Rattle.store_waivers.proofs.hits.append_hits.Given as goal

abbrev pub invariant-loop-bin : goal.invariant-loop-bin
invariant-loop-bin l = l.text.items ≡ l.initial.text.items
    ++ flat_map (line_of_hit (nodes_now l.store) (count_now l.store) (excluded_now l.store)) (take l.bin-index (bins_under (nodes_now l.store) 0))
