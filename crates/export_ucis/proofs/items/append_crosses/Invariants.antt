use Rattle.std.proofs.Common.{◌≡◌, ◌++◌, drop, length}
use Rattle.markup.specs.Trees.{markup_text, each_pair}
use Rattle.merge_store.specs.Stores.{opening_of, entries_of}
use Rattle.export_ucis.specs.Nodes.{cross_of}
use Rattle.export_ucis.proofs.items.append_crosses.Given as goal

-- what is written, and what is left, are the whole
abbrev pub invariant-loop-item : goal.invariant-loop-item
invariant-loop-item l =
    l.text.items ++ markup_text (each_pair (cross_of (opening_of l.store) (entries_of l.store) l.items) (drop (length l.yielded) l.items) (drop (length l.yielded) l.nodes))
    ≡ l.initial.text.items ++ markup_text (each_pair (cross_of (opening_of l.store) (entries_of l.store) l.items) l.items l.nodes)
