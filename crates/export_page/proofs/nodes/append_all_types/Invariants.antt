use Rattle.std.proofs.Common.{◌≡◌, ◌++◌, drop}
use Rattle.markup.specs.Trees.{each, markup_text}
use Rattle.merge_store.specs.Stores.{opening_of, entries_of}
use Rattle.export_page.specs.Page.{type_part}
use Rattle.export_page.proofs.nodes.append_all_types.Given as goal

abbrev pub invariant-loop-group : goal.invariant-loop-group
invariant-loop-group l = l.text.items ++ markup_text (each (type_part (opening_of l.store) (entries_of l.store)) (drop l.group-index l.types)) ≡ l.fn.text.items ++ markup_text (each (type_part (opening_of l.store) (entries_of l.store)) l.types)
