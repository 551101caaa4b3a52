-- A plain store as its opening design and its entries.
use Rattle.std.specs.Prelude.{List}
use Rattle.design_data.specs.declared.design.Design.{Design}
use Rattle.cov_history.specs.declared.entry.Entry.{Entry}
use Rattle.history_answers.specs.declared.plain.PlainStore.{PlainStore}

-- the design that it was made with
abbrev pub opening_of : PlainStore → Design
opening_of s = s.opening

-- its entries in order
abbrev pub entries_of : PlainStore → List Entry
entries_of s = s.entries.items
