use Rattle.std.proofs.Common.{◌≡◌, ◌++◌, drop, length}
use Rattle.markup.specs.Trees.{markup_text, each_pair}
use Rattle.merge_store.specs.Stores.{opening_of, entries_of}
use Rattle.export_ucis.specs.Nodes.{bin_of_point}
use Rattle.export_ucis.proofs.bins.append_bins_of_point.Given as goal

-- what is written, and what is left, are the whole
abbrev pub invariant-loop-bin : goal.invariant-loop-bin
invariant-loop-bin l =
    l.text.items ++ markup_text (each_pair (bin_of_point (opening_of l.store) (entries_of l.store) l.typ) (drop (length l.yielded) l.bins) (drop (length l.yielded) l.nodes))
    ≡ l.initial.text.items ++ markup_text (each_pair (bin_of_point (opening_of l.store) (entries_of l.store) l.typ) l.bins l.nodes)
