-- What a code holds after changes.
use Rattle.std.specs.Prelude.{ℕ, List, [], ◌∷◌, slice_set, slice_get, slice_index_or, ◌==◌, Option, Some, None, if◌then◌else◌}
use Rattle.vcd_dump.specs.declared.dump.Bit4.TheVariants.{X}
use Rattle.vcd_dump.specs.declared.dump.Change.{Change}
use Rattle.vcd_reader.specs.declared.held.Held.{Held}

-- what is held before the first change: Unknown, with x as the lowest bit
abbrev pub unknown : Held
unknown = record { value = None; low = X }

abbrev pub held_by : Change → Held
held_by change = record { value = change.value; low = change.low }

-- what the code holds after these changes, where it held this before: the last change of the code counts
abbrev pub held_after : (code : ℕ) → List Change → Held → Held
held_after code [] held = held
held_after code (change ∷ changes) held = held_after code changes (if change.code == code then held_by change else held)

unfoldable pub held : (code : ℕ) → List Change → Held
held code changes = held_after code changes unknown

-- the same of many codes: a table by code
abbrev pub applied : List Change → List Held → List Held
applied [] table = table
applied (change ∷ changes) table = applied changes (slice_set table change.code (held_by change))

abbrev pub shown_by : (table : List Held) → Option ℕ → Held
shown_by table None = unknown
shown_by table (Some code) = slice_index_or table code unknown

-- what a table shows for the signal of this number
abbrev pub shown : (codes : List ℕ) → (table : List Held) → (signal : ℕ) → Held
shown codes table signal = shown_by table (slice_get codes signal)
