use Rattle.std.proofs.Common.{◌≡◌, ◌++◌, take}
use Rattle.cov_history.specs.Nodes.{children}
use Rattle.json_text.specs.Values.{all_tokens}
use Rattle.merge_store.specs.Now.{nodes_now}
use Rattle.merge_store.specs.Stores.{opening_of, entries_of}
use Rattle.export_json.specs.Export.{instance_value}
use Rattle.export_json.proofs.covers.write_instances.Given as goal

abbrev pub invariant-loop-instance : goal.invariant-loop-instance
invariant-loop-instance l = l.out ≡ l.initial.out ++ all_tokens (instance_value (opening_of l.store) (entries_of l.store)) (take l.instance-index (children (nodes_now l.store) l.node))
