-- What a journal holds: a header, and items one behind another, each behind an open gate.
use Rattle.std.specs.Prelude.{ℕ, ◌<◌, ◌^◌, List, [], ◌∷◌, ◌++◌, length}
use Rattle.std.specs.List.{flat_map}
use Rattle.std.specs.Int.{w32, to_be_bytes}

-- an entry as it is written: who made it, the number of its kind, and its bytes
pub record Item : Type 0 where
  pub caller : ℕ
  pub kind : ℕ
  pub content : List ℕ

-- its numbers fit the places that they are written to
pub record IsWritable (item : Item) : Type 0 where
  pub caller : item.caller < 2 ^ 32
  pub length : length item.content < 2 ^ 32

-- the letters CVJL and the number 1 in four bytes
abbrev pub letters : List ℕ
letters = 67 ∷ 86 ∷ 74 ∷ 76 ∷ 0 ∷ 0 ∷ 0 ∷ 1 ∷ []

-- what a journal begins with, by the SHA-256 of the design text that it is for
abbrev pub header : (digest : List ℕ) → List ℕ
header digest = letters ++ digest

-- the nine bytes before an item's own: the caller, the kind, and how many bytes follow
abbrev pub head_of : Item → List ℕ
head_of item = to_be_bytes w32 item.caller ++ item.kind ∷ to_be_bytes w32 (length item.content)

-- an item's head and bytes
abbrev pub part_of : Item → List ℕ
part_of item = head_of item ++ item.content

-- an item behind its open gate
abbrev pub gated : Item → List ℕ
gated item = 1 ∷ part_of item

-- the bytes of a journal of these items, up to the gate that isn't open
abbrev pub journal_of : (digest : List ℕ) → List Item → List ℕ
journal_of digest items = header digest ++ flat_map gated items
