use Rattle.std.proofs.Common.{◌≡◌, ◌++◌, take}
use Rattle.cov_history.specs.Nodes.{children}
use Rattle.json_text.specs.Values.{all_tokens}
use Rattle.merge_store.specs.Now.{nodes_now}
use Rattle.merge_store.specs.Stores.{opening_of, entries_of}
use Rattle.export_json.specs.Export.{type_value}
use Rattle.export_json.proofs.covers.write_types.Given as goal

abbrev pub invariant-loop-group : goal.invariant-loop-group
invariant-loop-group l = l.out ≡ l.initial.out ++ all_tokens (type_value (opening_of l.store) (entries_of l.store)) (take l.group-index (children (nodes_now l.store) 0))
