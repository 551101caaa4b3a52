-- How the code keeps the tree of a design. Public contracts cite none of it.
use Rattle.std.specs.Prelude.{◌≡◌, ◌<◌, ℕ, ◌==◌, nat_lt, List, [], ◌∷◌, length, filter, slice_index_or, slice_set, take, drop, ◌++◌, if◌then◌else◌, ◌&&◌}
use Rattle.std.specs.List.{range_with_len}
use Rattle.ucis_model.specs.declared.node.Node.{Node}
use Rattle.ucis_model.specs.Paths.{node_at}
use Rattle.store_sums.specs.declared.branches.Facts.{Facts}

-- the nodes right below one, of those before a place
abbrev pub children_before : List Node → (place : ℕ) → ℕ → List ℕ
children_before nodes place n = filter (λ m. nat_lt 0 m && ((node_at nodes m).parent == n)) (range_with_len 0 place)

-- a list for each node: the nodes right below it, of those before a place
pub record HasChildren (nodes : List Node) (place : ℕ) (lists : List (List ℕ)) : Type 0 where
  pub same_len : length lists ≡ length nodes
  pub at : (n : ℕ) → n < length nodes → slice_index_or lists n [] ≡ children_before nodes place n

-- one node more right below another
abbrev pub with_child : (parent child : ℕ) → List (List ℕ) → List (List ℕ)
with_child parent child lists = if child == 0 then lists else slice_set lists parent (slice_index_or lists parent [] ++ child ∷ [])

-- so many elements from a place on
abbrev pub part : {A : Type 0} → (first count : ℕ) → List A → List A
part first count list = take count (drop first list)

-- what a node says apart from its name
abbrev pub facts_of : Node → Facts
facts_of node = record { kind = node.kind; parent = node.parent; first_bin = node.first_bin; bins = node.bins; weight = node.weight; type_weight = node.type_weight; goal = node.goal; at_least = node.at_least; merge = node.merge }
