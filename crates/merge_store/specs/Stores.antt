-- A store as its opening design and its entries.
use Rattle.std.specs.Prelude.{List, map}
use Rattle.std.specs.Arc.{arc_value}
use Rattle.design_data.specs.declared.design.Design.{Design}
use Rattle.cov_history.specs.declared.entry.Entry.{Entry}
use Rattle.merge_store.specs.declared.store.Store.{Store}
use Rattle.store_parts.specs.Words.{entry_of}

-- the design that it was made with
abbrev pub opening_of : Store → Design
opening_of s = arc_value s.opening

-- its entries in order
abbrev pub entries_of : Store → List Entry
entries_of s = map entry_of s.entries.items
