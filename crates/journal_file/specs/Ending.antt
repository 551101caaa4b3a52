-- Where the items of a journal end.
use Rattle.std.specs.Prelude.{◌≡◌, ℕ, ◌^◌, ◌<◌, ◌≤◌, List, length}
use Rattle.journal_bytes.specs.Items.{Item, journal_of}
use Rattle.journal_bytes.specs.Sums.{sum_of}
use Rattle.journal_file.specs.declared.end.End.{End}
use Rattle.journal_file.specs.declared.entry.Entry.{Entry}

-- the item that an entry is
abbrev pub item_of : Entry → Item
item_of entry = record { caller = entry.caller; kind = entry.kind; content = entry.content.items }

-- these items end there: the place of the gate behind them, how many they are, and their sum
pub record EndsAt (digest : List ℕ) (items : List Item) (end : End) : Type 0 where
  pub place : end.place ≡ length (journal_of digest items)
  pub count : end.count ≡ length items
  pub sum : end.sum ≡ sum_of digest items

-- an item more has room behind it
pub record IsRoomy (end : End) : Type 0 where
  pub place : end.place < 2 ^ 62
  pub count : end.count ≤ end.place

-- an item of these parts
abbrev pub item_with : (caller kind : ℕ) → (content : List ℕ) → Item
item_with caller kind content = record { caller = caller; kind = kind; content = content }
