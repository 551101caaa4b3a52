-- A list of truth values as a test of places.
use Rattle.std.specs.Prelude.{ℕ, List, slice_index_or, Bool, false}

-- the flag of a node; past the end that of the root, under which every node stands
abbrev pub flagged : List Bool → ℕ → Bool
flagged flags place = slice_index_or flags place (slice_index_or flags 0 false)
