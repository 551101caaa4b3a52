use Rattle.std.proofs.Common.{◌≡◌, ◌++◌, drop}
use Rattle.markup.specs.Trees.{each, markup_text}
use Rattle.merge_store.specs.Stores.{opening_of, entries_of}
use Rattle.export_page.specs.Page.{instance_part}
use Rattle.export_page.proofs.nodes.append_instances.Given as goal

abbrev pub invariant-loop-instance : goal.invariant-loop-instance
invariant-loop-instance l = l.text.items ++ markup_text (each (instance_part (opening_of l.store) (entries_of l.store)) (drop l.instance-index l.instances)) ≡ l.fn.text.items ++ markup_text (each (instance_part (opening_of l.store) (entries_of l.store)) l.instances)
