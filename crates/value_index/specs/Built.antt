-- How the rows are built.
use Rattle.std.specs.Prelude.{◌≡◌, ℕ, ◌+◌, ◌^◌, ◌<◌, List, [], ◌∷◌, ◌++◌, length, slice_index, slice_index_or, nat_le, nat_lt, if◌then◌else◌, All}
use Rattle.std.specs.List.{Contains}
use mathlib.Core.Bool.{◌&&◌}
use Rattle.value_index.specs.declared.sets.Span.{Span}
use Rattle.value_index.specs.Found.{in_set, places}

pub record HasEnds (cuts : List ℕ) (span : Span) : Type 0 where
  pub low : Contains cuts span.low
  pub past : span.high + 1 < 2 ^ 64 → Contains cuts (span.high + 1)

abbrev pub HasAllEnds : List ℕ → List (List Span) → Type 0
HasAllEnds cuts sets = All (λ spans. All (HasEnds cuts) spans) sets

-- the rows at the given places have one more bin
pub record RangeAdded (from to bin : ℕ) (old new : List (List ℕ)) : Type 0 where
  pub same : length new ≡ length old
  pub at : (s : ℕ) → s < length old → slice_index_or new s [] ≡ slice_index_or old s [] ++ (if nat_le from s && nat_lt s to then bin ∷ [] else [])

-- the rows whose cut is in a span have one more bin
pub record SpansAdded (cuts : List ℕ) (spans : List Span) (bin : ℕ) (old new : List (List ℕ)) : Type 0 where
  pub same : length new ≡ length old
  pub at : (s : ℕ) → s < length old → slice_index_or new s [] ≡ slice_index_or old s [] ++ (if in_set (slice_index cuts s) spans then bin ∷ [] else [])

-- each row has the bins that have its cut
pub record Holds (cuts : List ℕ) (sets : List (List Span)) (rows : List (List ℕ)) : Type 0 where
  pub same : length rows ≡ length cuts
  pub at : (s : ℕ) → s < length cuts → slice_index_or rows s [] ≡ places (slice_index cuts s) 0 sets
