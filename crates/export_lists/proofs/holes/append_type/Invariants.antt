use Rattle.std.proofs.Common.{◌≡◌, ◌++◌, take}
use Rattle.std.specs.List.{flat_map}
use Rattle.cov_history.specs.Nodes.{children}
use Rattle.cov_history.specs.History.{design_of}
use Rattle.merge_store.specs.Now.{nodes_now, count_now, excluded_now}
use Rattle.merge_store.specs.Stores.{opening_of, entries_of}
use Rattle.export_lists.specs.Holes.{lines_of_instance}
use Rattle.export_lists.proofs.holes.append_type.Given as goal

abbrev pub invariant-loop-instance : goal.invariant-loop-instance
invariant-loop-instance l =
    l.text.items ≡ l.initial.text.items ++ flat_map (lines_of_instance (design_of (opening_of l.store) (entries_of l.store)).instances (nodes_now l.store) (count_now l.store) (excluded_now l.store)) (take l.instance-index (children (nodes_now l.store) l.node))
