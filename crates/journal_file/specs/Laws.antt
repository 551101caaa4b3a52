-- What holds of journals that are opened beside their sums.
use Rattle.std.specs.Prelude.{◌≡◌, ◌⊎◌, ℕ, ◌+◌, ◌<◌, ◌≤◌, ◌^◌, List, length, take, All}
use Rattle.journal_bytes.specs.Items.{Item, IsWritable, journal_of}
use Rattle.journal_bytes.specs.Sums.{sums_of}
use Rattle.journal_bytes.specs.Laws.{Collision}
use Rattle.journal_file.specs.declared.fault.OpenFault.{OpenFault}
use Rattle.journal_file.specs.Stands.{StandsFor}
use Rattle.journal_file.specs.Damage.{whole, Agrees}
use Rattle.journal_file.specs.Outcomes.{IsOfMachine, Refuses}

-- Where the sums are those of items, or a front of them, and items that are read agree with them, these are the same as far
-- as there are sums, or two messages with one SHA-256 are known.
abbrev pub SumsTellDamage : Type 0
SumsTellDamage = (digest sums : List ℕ) (items others : List Item) (n : ℕ) → length digest ≡ 32 → All IsWritable items
    → All IsWritable others → sums ≡ take (length sums) (sums_of digest items) → Agrees digest sums others
    → n ≤ whole sums → n ≤ length others → (take n items ≡ take n others) ⊎ Collision

-- A file that stands for items, beside sums that agree with them, is refused by a fault of the machine alone.
abbrev pub RightIsOpened : Type 0
RightIsOpened = (digest sums file : List ℕ) (items : List Item) (fault : OpenFault) → length digest ≡ 32
    → StandsFor digest items file → Agrees digest sums items → whole sums ≤ length items + 1
    → length (journal_of digest items) < 2 ^ 62 → Refuses digest sums file fault → IsOfMachine fault
