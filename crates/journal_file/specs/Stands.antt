-- What a file stands for as a journal.
use Rattle.std.specs.Prelude.{◌≡◌, ◌⊎◌, ℕ, List, [], ◌∷◌, ◌++◌, length, All}
use Rattle.cov_disk.specs.Gates.{Ends}
use Rattle.journal_bytes.specs.Items.{Item, IsWritable, part_of, journal_of}

-- the file is a journal of these items: they stand one behind another, each behind an open gate, and then a gate that isn't
-- open
pub record StandsFor (digest : List ℕ) (items : List Item) (file : List ℕ) : Type 0 where
  pub writable : All IsWritable items
  pub ends : Ends (journal_of digest items) file

-- the file is a journal of these items, or of these with one more
abbrev pub StandsEither : (digest : List ℕ) → (items : List Item) → (item : Item) → (file : List ℕ) → Type 0
StandsEither digest items item file = StandsFor digest items file ⊎ StandsFor digest (items ++ item ∷ []) file

-- the file begins with a journal of these items, and a gate, open or not
pub record Begins (digest : List ℕ) (items : List Item) (file : List ℕ) : Type 0 where
  pub writable : All IsWritable items
  pub gate : ℕ
  pub rest : List ℕ
  pub is : file ≡ journal_of digest items ++ gate ∷ rest

-- the bytes begin with an item and a gate behind it, open or not
pub record StartsWith (item : Item) (bytes : List ℕ) : Type 0 where
  pub writable : IsWritable item
  pub gate : ℕ
  pub rest : List ℕ
  pub is : bytes ≡ part_of item ++ gate ∷ rest

-- the bytes begin with no item that has a gate behind it
abbrev pub StartsWithNone : List ℕ → Type 0
StartsWithNone bytes = (item : Item) → StartsWith item bytes → ⊥

-- behind these items stands an open gate at this place, and behind that one no item with a gate
pub record BreaksOff (digest : List ℕ) (items : List Item) (at : ℕ) (file : List ℕ) : Type 0 where
  pub writable : All IsWritable items
  pub rest : List ℕ
  pub is : file ≡ journal_of digest items ++ 1 ∷ rest
  pub place : length (journal_of digest items) ≡ at
  pub none : StartsWithNone rest

-- the file doesn't begin with the header of any journal and a gate
abbrev pub BeginsNone : List ℕ → Type 0
BeginsNone file = (digest : List ℕ) → length digest ≡ 32 → Begins digest [] file → ⊥
