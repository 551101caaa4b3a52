use Rattle.std.proofs.Common.{◌≡◌, ◌++◌, take}
use Rattle.std.specs.List.{flat_map}
use Rattle.cov_history.specs.Nodes.{children}
use Rattle.cov_history.specs.History.{design_of}
use Rattle.merge_store.specs.Now.{nodes_now}
use Rattle.merge_store.specs.Stores.{opening_of, entries_of}
use Rattle.cov_report.specs.Report.{lines_of_type}
use Rattle.store_views.specs.Views.{rows_at}
use Rattle.cov_report.proofs.coverage.append_coverage.Given as goal

abbrev pub invariant-loop-group : goal.invariant-loop-group
invariant-loop-group l =
    l.text.items ≡ l.initial.text.items ++ flat_map (lines_of_type (design_of (opening_of l.store) (entries_of l.store)).instances (nodes_now l.store) (rows_at (opening_of l.store) (entries_of l.store))) (take l.group-index (children (nodes_now l.store) 0))
