use Rattle.std.proofs.Common.{◌≡◌, ◌++◌, drop}
use Rattle.markup.specs.Trees.{each, markup_text}
use Rattle.merge_store.specs.Stores.{opening_of, entries_of}
use Rattle.export_page.specs.Page.{item_part}
use Rattle.export_page.proofs.nodes.append_items.Given as goal

abbrev pub invariant-loop-item : goal.invariant-loop-item
invariant-loop-item l = l.text.items ++ markup_text (each (item_part (opening_of l.store) (entries_of l.store)) (drop l.item-index l.items)) ≡ l.fn.text.items ++ markup_text (each (item_part (opening_of l.store) (entries_of l.store)) l.items)
