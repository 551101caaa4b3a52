use Rattle.std.proofs.Common.{◌≡◌, ◌++◌, drop}
use Rattle.markup.specs.Trees.{each, markup_text}
use Rattle.merge_store.specs.Stores.{opening_of, entries_of}
use Rattle.export_page.specs.Page.{bin_row}
use Rattle.export_page.proofs.bins.append_rows.Given as goal

abbrev pub invariant-loop-bin : goal.invariant-loop-bin
invariant-loop-bin l = l.text.items ++ markup_text (each (bin_row (opening_of l.store) (entries_of l.store)) (drop l.bin-index l.bins)) ≡ l.fn.text.items ++ markup_text (each (bin_row (opening_of l.store) (entries_of l.store)) l.bins)
