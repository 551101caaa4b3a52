use Rattle.std.proofs.Common.{◌≡◌, ◌++◌, take}
use Rattle.std.specs.List.{flat_map}
use Rattle.cov_history.specs.Nodes.{children}
use Rattle.merge_store.specs.Now.{nodes_now}
use Rattle.merge_store.specs.Stores.{opening_of, entries_of}
use Rattle.cov_report.specs.Report.{line_of_item}
use Rattle.store_views.specs.Views.{rows_at}
use Rattle.cov_report.proofs.coverage.append_instance.Given as goal

abbrev pub invariant-loop-item : goal.invariant-loop-item
invariant-loop-item l = l.text.items ≡ l.initial.text.items ++ flat_map (line_of_item (nodes_now l.store) (rows_at (opening_of l.store) (entries_of l.store))) (take l.item-index (children (nodes_now l.store) l.node))
