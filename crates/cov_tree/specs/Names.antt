-- The bytes of a name, as they are kept. Public contracts cite none of it.
use Rattle.std.specs.Prelude.{ℕ, ◌≤◌, List, take}
use Rattle.cov_tree.specs.declared.name.Bytes.{Bytes}
use Rattle.cov_tree.specs.declared.name.Bytes.TheVariants.{Short, Shared}
use Rattle.std.specs.Arc.{arc_slice_items}

abbrev pub bytes_of : Bytes → List ℕ
bytes_of (Short length bytes) = take length bytes
bytes_of (Shared bytes) = arc_slice_items bytes

-- what is kept in place fits there
abbrev pub IsKept : Bytes → Type 0
IsKept (Short length bytes) = length ≤ 22
IsKept (Shared bytes) = Unit {0}
