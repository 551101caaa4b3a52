use Rattle.std.proofs.Common.{◌≡◌, ◌++◌, drop}
use Rattle.markup.specs.Trees.{markup_text, each}
use Rattle.merge_store.specs.Stores.{opening_of, entries_of}
use Rattle.export_ucis.specs.Nodes.{instance_of}
use Rattle.export_ucis.proofs.covers.append_instances.Given as goal

-- what is written, and what is left, are the whole
abbrev pub invariant-loop-node : goal.invariant-loop-node
invariant-loop-node l = l.text.items ++ markup_text (each (instance_of (opening_of l.store) (entries_of l.store) l.group) (drop l.node-index l.nodes)) ≡ l.initial.text.items ++ markup_text (each (instance_of (opening_of l.store) (entries_of l.store) l.group) l.nodes)
