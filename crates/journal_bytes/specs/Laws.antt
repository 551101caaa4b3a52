-- What holds of journals and of their sums.
use Rattle.std.specs.Prelude.{◌≡◌, ◌≢◌, ◌⊎◌, ℕ, ◌*◌, ◌≤◌, List, length, take, All}
use Rattle.sha2.specs.Sha256.{sha256}
use Rattle.cov_disk.specs.Gates.{Ends}
use Rattle.journal_bytes.specs.Items.{Item, IsWritable, journal_of}
use Rattle.journal_bytes.specs.Sums.{sum_of, sums_of}

-- two messages with one SHA-256
pub record Collision : Type 0 where
  pub one : List ℕ
  pub other : List ℕ
  pub apart : one ≢ other
  pub same : sha256 one ≡ sha256 other

-- bytes are a journal of one list of items at most
abbrev pub HaveOneJournal : Type 0
HaveOneJournal = (digest file : List ℕ) (items others : List Item) → All IsWritable items → All IsWritable others
    → Ends (journal_of digest items) file → Ends (journal_of digest others) file → items ≡ others

-- lists of as many items with the same last sum are the same, or two messages with one SHA-256 are known
abbrev pub SumsTell : Type 0
SumsTell = (before : List ℕ) (items others : List Item) → length before ≡ 32 → All IsWritable items
    → All IsWritable others → length items ≡ length others → sum_of before items ≡ sum_of before others
    → (items ≡ others) ⊎ Collision

-- lists whose first sums are the same have the same items there, or two messages with one SHA-256 are known
abbrev pub FirstSumsTell : Type 0
FirstSumsTell = (before : List ℕ) (items others : List Item) (n : ℕ) → length before ≡ 32 → All IsWritable items
    → All IsWritable others → n ≤ length items → n ≤ length others
    → take (32 * n) (sums_of before items) ≡ take (32 * n) (sums_of before others)
    → (take n items ≡ take n others) ⊎ Collision
