-- How large an index of sets would be, and from where on none is made.
use Rattle.std.specs.Prelude.{◌↔◌, ℕ, ◌+◌, ◌-◌, ◌*◌, ◌^◌, ◌<◌, ◌≤◌, nat_lt, List, [], ◌∷◌, length, Option, Some, None, if◌then◌else◌}
use Rattle.std.specs.List.{filter, flat_map, Contains, AllPairs}
use Rattle.value_index.specs.declared.sets.Span.{Span}
use Rattle.value_index.specs.declared.index.Index.{Index}
use Rattle.value_index.specs.Found.{in_span}
use Rattle.value_index.specs.Finds.{Finds}

-- where a span begins, and the number after its last one
abbrev pub ends_of : Span → List ℕ
ends_of span = span.low ∷ (if nat_lt span.high (2 ^ 64 - 1) then (span.high + 1) ∷ [] else [])

-- 0, and where the spans of sets begin and end
abbrev pub all_ends : List (List Span) → List ℕ
all_ends sets = 0 ∷ flat_map (flat_map ends_of) sets

-- the cuts of sets: these ends, ascending, each once
pub record AreCuts (sets : List (List Span)) (cuts : List ℕ) : Type 0 where
  pub ascend : AllPairs (λ a b. a < b) cuts
  pub same : (x : ℕ) → Contains cuts x ↔ Contains (all_ends sets) x

-- the places in rows that a set takes: one in the row of each cut that a span of it holds
abbrev pub places_of : List ℕ → List Span → ℕ
places_of cuts [] = 0
places_of cuts (span ∷ spans) = length (filter (λ cut. in_span cut span) cuts) + places_of cuts spans

abbrev pub rows_size : List ℕ → List (List Span) → ℕ
rows_size cuts [] = 0
rows_size cuts (set ∷ sets) = places_of cuts set + rows_size cuts sets

-- the most places that the rows of so many cuts may have
abbrev pub most_places : ℕ → ℕ
most_places cuts = 4 * cuts + 65536

-- the rows of the sets' cuts don't have too many places
pub record IsSmall (sets : List (List Span)) : Type 0 where
  pub cuts : List ℕ
  pub are_cuts : AreCuts sets cuts
  pub few : rows_size cuts sets ≤ most_places (length cuts)

-- they have too many
pub record IsLarge (sets : List (List Span)) : Type 0 where
  pub cuts : List ℕ
  pub are_cuts : AreCuts sets cuts
  pub many : most_places (length cuts) < rows_size cuts sets

-- what is made of sets: an index that finds them, or none where it would be large
abbrev pub IsMade : List (List Span) → Option Index → Type 0
IsMade sets (Some index) = Finds index sets × IsSmall sets
IsMade sets None = IsLarge sets
