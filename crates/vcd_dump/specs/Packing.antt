-- How the times and changes of a dump are kept: packed into bytes, in less room than their text takes. A number is one byte
-- where it is below 128; a change is one number, which tells the values 0, 1, x and z, and behind it any other value.
-- The code keeps these bytes; of public contracts those of the walk along steps alone cite them (`Steps::as_bytes`, `first_time`,
-- `next_change`, `next_time`).
use Rattle.std.specs.Prelude.{◌≡◌, ℕ, zero, suc, List, [], ◌∷◌, ◌++◌, ◌+◌, ◌-◌, ◌*◌, ◌/◌, ◌%◌, ◌^◌, nat_lt, ◌==◌, length, Option, Some, None, IfSome, ◌<◌, if◌then◌else◌}
use Rattle.vcd_dump.specs.declared.dump.Bit4.{Bit4}
use Rattle.vcd_dump.specs.declared.dump.Bit4.TheVariants.{Zero, One, X, Z}
use Rattle.vcd_dump.specs.declared.dump.Change.{Change}
use Rattle.vcd_dump.specs.declared.packing.Item.{Item}
use Rattle.vcd_dump.specs.declared.packing.Item.TheVariants.{Begins, Changes}

-- ---- numbers

-- a number in one byte and at most so many more, the lowest seven bits first; a byte from 128 on says that one follows
unfoldable pub number_bytes : (more n : ℕ) → List ℕ
number_bytes zero n = n % 256 ∷ []
number_bytes (suc more) n = if nat_lt n 128 then n ∷ [] else (128 + n % 128) ∷ number_bytes more (n / 128)

-- the number that bytes begin with, in 64 bits, and the bytes behind it; 0 where there are none
pub record Number : Type 0 where
  pub n : ℕ
  pub rest : List ℕ

-- a byte with what follows it
abbrev pub with_byte : ℕ → Number → Number
with_byte byte next = record { n = (byte - 128 + next.n * 128 % 2 ^ 64) % 2 ^ 64; rest = next.rest }

unfoldable pub number_in : (more : ℕ) → List ℕ → Number
number_in more [] = record { n = 0; rest = [] }
number_in zero (byte ∷ bytes) = record { n = byte; rest = bytes }
number_in (suc more) (byte ∷ bytes) = if nat_lt byte 128 then record { n = byte; rest = bytes } else with_byte byte (number_in more bytes)

-- ---- changes

abbrev pub bit_number : Bit4 → ℕ
bit_number Zero = 0
bit_number One = 1
bit_number X = 2
bit_number Z = 3

abbrev pub bit_of : ℕ → Bit4
bit_of n = if n == 0 then Zero else if n == 1 then One else if n == 2 then X else Z

-- 0 for none, 1 for the value 0, 2 for the value 1, and 3 for any other
abbrev pub form_of : Option ℕ → ℕ
form_of None = 0
form_of (Some value) = if nat_lt value 2 then value + 1 else 3

abbrev pub value_bytes : Option ℕ → List ℕ
value_bytes None = []
value_bytes (Some value) = if nat_lt value 2 then [] else number_bytes 9 value

-- 0 stands for a time
abbrev pub head_of : Change → ℕ
head_of change = 1 + (change.code * 16 + (bit_number change.low * 4 + form_of change.value))

pub record Value : Type 0 where
  pub value : Option ℕ
  pub rest : List ℕ

abbrev pub far_value : Number → Value
far_value number = record { value = Some number.n; rest = number.rest }

unfoldable pub value_in : (form : ℕ) → List ℕ → Value
value_in form bytes = if form == 0 then record { value = None; rest = bytes } else if form == 3 then far_value (number_in 9 bytes) else record { value = Some (form - 1); rest = bytes }

-- ---- items

unfoldable pub item_bytes : Item → List ℕ
item_bytes (Begins time) = 0 ∷ number_bytes 9 time
item_bytes (Changes change) = number_bytes 9 (head_of change) ++ value_bytes change.value

-- an item, and the bytes behind it
pub record OneItem : Type 0 where
  pub item : Item
  pub rest : List ℕ

abbrev pub begins : Number → OneItem
begins time = record { item = Begins time.n; rest = time.rest }

abbrev pub changes_with : (head : ℕ) → Value → OneItem
changes_with head value = record { item = Changes (record { code = head / 16 % 2 ^ 32; value = value.value; low = bit_of (head / 4 % 4) }); rest = value.rest }

abbrev pub changes : (head : ℕ) → List ℕ → OneItem
changes head bytes = changes_with head (value_in (head % 4) bytes)

abbrev pub item_behind : Number → OneItem
item_behind head = if head.n == 0 then begins (number_in 9 head.rest) else changes (head.n - 1) head.rest

-- the item that bytes begin with
unfoldable pub item_in : List ℕ → OneItem
item_in bytes = item_behind (number_in 9 bytes)

-- the items that bytes hold, in order, at most so many
unfoldable pub items_for : (most : ℕ) → List ℕ → List Item
items_for zero bytes = []
items_for (suc most) [] = []
items_for (suc most) (byte ∷ bytes) = (item_in (byte ∷ bytes)).item ∷ items_for most (item_in (byte ∷ bytes)).rest

unfoldable pub items_in : List ℕ → List Item
items_in bytes = items_for (length bytes) bytes

-- bytes end where an item ends
abbrev pub IsWhole : List ℕ → Type 0
IsWhole bytes = (more : List ℕ) → items_in (bytes ++ more) ≡ items_in bytes ++ items_in more

-- numbers are within the widths of their fields
abbrev pub IsItem : Item → Type 0
IsItem (Begins time) = time < 2 ^ 64
IsItem (Changes change) = (change.code < 2 ^ 32) × IfSome change.value (λ value. value < 2 ^ 64)
