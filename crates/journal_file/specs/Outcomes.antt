-- What the calls of a journal answer, over a disk that tells its bytes.
use Rattle.std.specs.Prelude.{◌≡◌, ◌≢◌, ◌⊎◌, ℕ, ◌+◌, ◌*◌, ◌^◌, ◌<◌, ◌≤◌, List, [], ◌∷◌, ◌++◌, length, map, drop, Option, Some, None, Result, Ok, Err}
use Rattle.journal_bytes.specs.Items.{Item, journal_of}
use Rattle.journal_bytes.specs.Sums.{sums_of}
use Rattle.journal_file.specs.declared.end.End.{End}
use Rattle.journal_file.specs.declared.entry.Entry.{Entry}
use Rattle.journal_file.specs.declared.opening.Opened.{Opened}
use Rattle.journal_file.specs.declared.fault.OpenFault.{OpenFault}
use Rattle.journal_file.specs.declared.fault.OpenFault.TheVariants.{DiskFault, BadJournal, OtherDesign, Damaged, TooLong, Memory}
use Rattle.journal_file.specs.Stands.{StandsFor, Begins, BreaksOff, BeginsNone}
use Rattle.journal_file.specs.Damage.{whole, Agrees, IsDamaged}
use Rattle.journal_file.specs.Ending.{item_of, EndsAt}

-- a fault of the machine, that says nothing of the file
abbrev pub IsOfMachine : OpenFault → Type 0
IsOfMachine DiskFault = Unit {0}
IsOfMachine (BadJournal at) = ⊥
IsOfMachine (OtherDesign digest) = ⊥
IsOfMachine (Damaged at) = ⊥
IsOfMachine TooLong = ⊥
IsOfMachine Memory = Unit {0}

-- the count of a disk's failures after a call: it stays 0 but where the call tells of one
abbrev pub CountsFaults : {T : Type 0} → Result T OpenFault → ℕ → Type 0
CountsFaults (Ok value) now = now ≡ 0
CountsFaults (Err DiskFault) now = 0 < now
CountsFaults (Err (BadJournal at)) now = now ≡ 0
CountsFaults (Err (OtherDesign digest)) now = now ≡ 0
CountsFaults (Err (Damaged at)) now = now ≡ 0
CountsFaults (Err TooLong) now = now ≡ 0
CountsFaults (Err Memory) now = now ≡ 0

-- what a refusal says of the file and of its sums, which are right up to its place
abbrev pub Refuses : (digest sums file : List ℕ) → OpenFault → Type 0
Refuses digest sums file DiskFault = Unit {0}
Refuses digest sums file (BadJournal at) = ((at ≡ 0) × BeginsNone file)
    ⊎ ((items : List Item) × (BreaksOff digest items at file × Agrees digest sums items))
Refuses digest sums file (OtherDesign other) = (other ≢ digest) × ((length other ≡ 32) × Begins other [] file)
Refuses digest sums file (Damaged at) = IsDamaged digest sums at file
Refuses digest sums file TooLong = (items : List Item)
    × ((Begins digest items file × Agrees digest sums items) × (2 ^ 62 ≤ length (journal_of digest items)))
Refuses digest sums file Memory = Unit {0}

-- the file begins with the header for this digest, or is refused by its first bytes
abbrev pub HasHeader : {T : Type 0} → (digest file : List ℕ) → Result T OpenFault → Type 0
HasHeader digest file (Ok done) = Begins digest [] file
HasHeader digest file (Err fault) = (sums : List ℕ) → Refuses digest sums file fault

-- the file was read up to this end of these items, and their sums are right as far as there are any
pub record ReadTo (digest sums : List ℕ) (items : List Item) (end : End) (file : List ℕ) : Type 0 where
  pub begins : Begins digest items file
  pub ends : EndsAt digest items end
  pub agrees : Agrees digest sums items

-- the gate behind these items is open
pub record IsOpen (digest : List ℕ) (items : List Item) (file : List ℕ) : Type 0 where
  pub rest : List ℕ
  pub is : file ≡ journal_of digest items ++ 1 ∷ rest

-- the item behind an open gate was read
abbrev pub TakesOpen : (digest sums file : List ℕ) → (items : List Item) → Result (Entry × End) OpenFault → Type 0
TakesOpen digest sums file items (Ok taken) = ReadTo digest sums (items ++ item_of taken.0 ∷ []) taken.1 file
TakesOpen digest sums file items (Err fault) = Refuses digest sums file fault

-- the end moves on where an item was read, and stays else
abbrev pub MovesOn : (old new : End) → Result (Option Entry) OpenFault → Type 0
MovesOn old new (Ok None) = new ≡ old
MovesOn old new (Ok (Some entry)) = (old.place < new.place) × (new.count ≡ old.count + 1)
MovesOn old new (Err fault) = new ≡ old

-- one item more was read, or none is left
abbrev pub Takes : (digest sums file : List ℕ) → (items : List Item) → (end : End) → Result (Option Entry) OpenFault → Type 0
Takes digest sums file items end (Ok None) = StandsFor digest items file
Takes digest sums file items end (Ok (Some entry)) = ReadTo digest sums (items ++ item_of entry ∷ []) end file
Takes digest sums file items end (Err fault) = Refuses digest sums file fault

-- all items of the file were read, and these sums are the missing ones
pub record IsRead (digest sums file : List ℕ) (opened : Opened) : Type 0 where
  pub begins : Begins digest (map item_of opened.entries.items) file
  pub end : EndsAt digest (map item_of opened.entries.items) opened.end
  pub agrees : Agrees digest sums (map item_of opened.entries.items)
  pub missing : opened.missing.items ≡ drop (32 * whole sums) (sums_of digest (map item_of opened.entries.items))

-- all items were read up to a gate that isn't open, or the file is refused
abbrev pub Reads : (digest sums file : List ℕ) → Result Opened OpenFault → Type 0
Reads digest sums file (Ok opened) = IsRead digest sums file opened
    × StandsFor digest (map item_of opened.entries.items) file
Reads digest sums file (Err fault) = Refuses digest sums file fault

-- the file is a journal of these entries, their sums are right as far as there are any, and these are the missing ones
pub record IsOpened (digest sums file : List ℕ) (opened : Opened) : Type 0 where
  pub stands : StandsFor digest (map item_of opened.entries.items) file
  pub end : EndsAt digest (map item_of opened.entries.items) opened.end
  pub agrees : Agrees digest sums (map item_of opened.entries.items)
  pub enough : whole sums ≤ length opened.entries.items + 1
  pub missing : opened.missing.items ≡ drop (32 * whole sums) (sums_of digest (map item_of opened.entries.items))

-- the file is opened or refused
abbrev pub Opens : (digest sums file : List ℕ) → Result Opened OpenFault → Type 0
Opens digest sums file (Ok opened) = IsOpened digest sums file opened
Opens digest sums file (Err fault) = Refuses digest sums file fault
