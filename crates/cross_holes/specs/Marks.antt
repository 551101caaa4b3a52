-- How the code marks the members of an axis. Public contracts cite none of it.
use Rattle.std.specs.Prelude.{ℕ, List, [], ◌∷◌, map, length, if◌then◌else◌, slice_index, slice_index_or, nat_lt, Option, Bool, false, ◌&&◌}
use Rattle.std.specs.Option.{option_map_or}
use Rattle.std.specs.List.{flat_map, range_with_len}
use Rattle.cross_holes.specs.declared.axes.Axis.{Axis}
use Rattle.cross_holes.specs.declared.holes.ProjectedHole.{ProjectedHole}
use Rattle.cross_holes.specs.Projected.{is_bare, named}

-- for each member whether it is marked, by how many holes and how many live bins have it
abbrev pub marks_of : (holes live : List ℕ) → List Bool
marks_of holes live = map (λ member. is_bare (slice_index holes member) (slice_index live member)) (range_with_len 0 (length holes))

abbrev pub is_marked : List Bool → (member : Option ℕ) → Bool
is_marked marks member = option_map_or (λ own. slice_index_or marks own false) member false

abbrev pub is_new : List Bool → (counts : List ℕ) → (member : ℕ) → Bool
is_new marks counts member = slice_index_or marks member false && nat_lt 0 (slice_index counts member)

-- the members that are marked and that some hole has, by how many have each
abbrev pub marked_with : Axis → List Bool → (counts : List ℕ) → List ProjectedHole
marked_with axis marks counts =
    flat_map (λ member. if is_new marks counts member then named axis member ∷ [] else []) (range_with_len 0 (length axis.members))
