-- What a selection of cross products means (IEEE 1800-2017, 19.6.1). A product is a list of bin numbers, one for each
-- crossed point.
use Rattle.std.specs.Prelude.{ℕ, List, Option, Some, None, Bool, false, not, ◌&&◌, ◌||◌, slice_get, slice_index_or}
use Rattle.cross_select.specs.declared.select.Select.{Select}
use Rattle.cross_select.specs.declared.select.Select.TheOpen.{Select-F, Bins, Not, And, Or}
use Rattle.cross_select.specs.declared.select.Select.TheFolds.{fold-Select}

-- the bin is a chosen one; a number that is no index isn't
abbrev pub is_in : List Bool → Option ℕ → Bool
is_in chosen None = false
is_in chosen (Some bin) = slice_index_or chosen bin false

-- the product's bin at the axis is a chosen one; none is where the axis is no index of the product
abbrev pub is_chosen_at : ℕ → List Bool → List ℕ → Bool
is_chosen_at axis chosen product = is_in chosen (slice_get product axis)

-- one node of a selection, its parts being decided
abbrev pub selected_node : List ℕ → Select-F Bool → Bool
selected_node product (Bins axis chosen) = is_chosen_at axis chosen product
selected_node product (Not inner) = not inner
selected_node product (And left right) = left && right
selected_node product (Or left right) = left || right

-- the selection selects the product
abbrev pub is_selected : Select → List ℕ → Bool
is_selected select product = fold-Select Bool (selected_node product) select
