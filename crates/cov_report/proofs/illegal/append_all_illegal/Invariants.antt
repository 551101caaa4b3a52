use Rattle.std.proofs.Common.{◌≡◌, ◌++◌, take}
use Rattle.std.specs.List.{flat_map}
use Rattle.cov_history.specs.Nodes.{bins_under}
use Rattle.merge_store.specs.Now.{nodes_now, count_now}
use Rattle.cov_report.specs.Report.{line_of_illegal}
use Rattle.cov_report.proofs.illegal.append_all_illegal.Given as goal

abbrev pub invariant-loop-bin : goal.invariant-loop-bin
invariant-loop-bin l = l.text.items ≡ l.initial.text.items ++ flat_map (line_of_illegal (nodes_now l.store) (count_now l.store)) (take l.bin-index (bins_under (nodes_now l.store) 0))
