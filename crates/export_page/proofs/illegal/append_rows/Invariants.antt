use Rattle.std.proofs.Common.{◌≡◌, ◌++◌, drop}
use Rattle.markup.specs.Trees.{each, markup_text}
use Rattle.merge_store.specs.Stores.{opening_of, entries_of}
use Rattle.export_page.specs.Page.{illegal_row}
use Rattle.export_page.proofs.illegal.append_rows.Given as goal

abbrev pub invariant-loop-bin : goal.invariant-loop-bin
invariant-loop-bin l = l.text.items ++ markup_text (each (illegal_row (opening_of l.store) (entries_of l.store)) (drop l.bin-index l.bins)) ≡ l.fn.text.items ++ markup_text (each (illegal_row (opening_of l.store) (entries_of l.store)) l.bins)
