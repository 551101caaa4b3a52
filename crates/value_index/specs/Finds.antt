-- What an index knows.
use Rattle.std.specs.Prelude.{◌≡◌, ℕ, ◌^◌, ◌<◌, List, [], slice_index_or}
use Rattle.value_index.specs.declared.sets.Span.{Span}
use Rattle.value_index.specs.declared.index.Index.{Index}
use Rattle.value_index.specs.Segments.{IsSegment}
use Rattle.value_index.specs.Found.{places}

-- the row of a value's segment has the sets with the value
pub record Finds (index : Index) (sets : List (List Span)) : Type 0 where
  pub at : (v s : ℕ) → v < 2 ^ 64 → IsSegment index.cuts.items v s → slice_index_or index.rows s [] ≡ places v 0 sets
