-- Bins by name, in the order of the names' first places. Public contracts cite none of it.
use Rattle.std.specs.Prelude.{◌≡◌, ℕ, ◌+◌, List, [], ◌∷◌, ◌++◌, map, fold, Option, Some, None, slice_index_or, slice_set, if◌then◌else◌, bytes_eq, Bool}
use Rattle.name_map.specs.Names.{Pairs}
use Rattle.ucis_model.specs.declared.node.Node.{Node}
use Rattle.cov_history.specs.Coverage.{bin_name, item_name, type_weight, merged_item}

-- the lists with a bin more, in the one at a place or behind them
abbrev pub put_at : Option ℕ → (bin : ℕ) → List (List ℕ) → List (List ℕ)
put_at None bin lists = lists ++ (bin ∷ []) ∷ []
put_at (Some place) bin lists = slice_set lists place (slice_index_or lists place [] ++ bin ∷ [])

-- a name with the bins that have it
abbrev pub Group : Type 0
Group = List ℕ × List ℕ

-- a bin more in the group of its name
abbrev pub with_bin : List Group → (name : List ℕ) → (bin : ℕ) → List Group
with_bin [] name bin = (name, bin ∷ []) ∷ []
with_bin (group ∷ groups) name bin = if bytes_eq name group.0 then (group.0, group.1 ++ bin ∷ []) ∷ groups else group ∷ with_bin groups name bin

-- the bins by name, in the order of the names' first places
abbrev pub groups_of : (name_of : ℕ → List ℕ) → List ℕ → List Group
groups_of name_of bins = fold (λ groups bin. with_bin groups (name_of bin) bin) [] bins

-- each group's name with its place
abbrev pub places_from : ℕ → List Group → Pairs ℕ
places_from first [] = []
places_from first (group ∷ groups) = (group.0, first) ∷ places_from (first + 1) groups

-- what the code has of groups
pub record HasGroups (groups : List Group) (names : Pairs ℕ) (lists : List (List ℕ)) : Type 0 where
  pub names_are : names ≡ places_from 0 groups
  pub lists_are : lists ≡ map (λ group. group.1) groups

-- the name of a bin, or of its item
abbrev pub name_by : List Node → (of_item : Bool) → ℕ → List ℕ
name_by nodes of_item bin = if of_item then item_name nodes bin else bin_name nodes bin

-- a weight and a value of each item, which has these live bins
abbrev pub merged_parts : List Node → (count : ℕ → ℕ) → List (List ℕ) → List (ℕ × ℕ)
merged_parts nodes count lists = map (λ bins. (type_weight nodes bins, merged_item nodes count bins)) lists
