-- Paths of nodes: the names from below the root down to a node, with `/` between them. The root has the empty path.
use Rattle.std.specs.Prelude.{◌<◌, ℕ, zero, suc, ◌==◌, nat_eq, List, [], ◌∷◌, ◌++◌, length, map, slice_index_or, Option, Some, None, if◌then◌else◌}
use Rattle.std.specs.List.{range_with_len}
use Rattle.std.specs.Cmp.Lexicographic.{pointwise}
use Rattle.name_map.specs.Names.{Pairs}
use Rattle.ucis_model.specs.declared.node.Node.{Node}
use Rattle.ucis_model.specs.Nodes.{root_node}

-- the node at a place
abbrev pub node_at : List Node → ℕ → Node
node_at nodes place = slice_index_or nodes place (root_node 0)

-- a name below a path
abbrev pub below : (above name : List ℕ) → List ℕ
below [] name = name
below (byte ∷ above) name = (byte ∷ above) ++ 47 ∷ name

-- the path of a node that has so many nodes above it at most
abbrev pub path_up : (most : ℕ) → List Node → ℕ → List ℕ
path_up zero nodes place = []
path_up (suc most) nodes place = if place == 0 then [] else below (path_up most nodes (node_at nodes place).parent) (node_at nodes place).name

-- The path of the node at a place. Each parent has a smaller place, so no more nodes than that are above it.
unfoldable pub path_of : List Node → ℕ → List ℕ
path_of nodes place = path_up place nodes place

-- the first of these places whose node has the path
abbrev pub first_with : List Node → (path : List ℕ) → (places : List ℕ) → Option ℕ
first_with nodes path [] = None
first_with nodes path (place ∷ places) = if pointwise nat_eq path (path_of nodes place) then Some place else first_with nodes path places

-- the least node that has the path
unfoldable pub find_in : List Node → (path : List ℕ) → Option ℕ
find_in nodes path = first_with nodes path (range_with_len 0 (length nodes))

-- each node but the root has a parent of a smaller place
abbrev pub HasSmallerParents : List Node → Type 0
HasSmallerParents nodes = (place : ℕ) → 0 < place → place < length nodes → (node_at nodes place).parent < place

-- How the code keeps them: the paths of all nodes with their places. Public contracts cite none of it.
abbrev pub places_of : List Node → Pairs ℕ
places_of nodes = map (λ place. (path_of nodes place, place)) (range_with_len 0 (length nodes))
