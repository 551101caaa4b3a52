-- What holds of paths, whatever the nodes.
use Rattle.std.specs.Prelude.{◌≡◌, ◌<◌, ◌≤◌, ℕ, List, length, Option, Some, None}
use Rattle.ucis_model.specs.declared.node.Node.{Node}
use Rattle.ucis_model.specs.Paths.{path_of, find_in}

-- what is found has the path, and no node before it has
pub record IsLeast (nodes : List Node) (path : List ℕ) (place : ℕ) : Type 0 where
  pub exists : place < length nodes
  pub has : path_of nodes place ≡ path
  pub least : (other : ℕ) → other < place → path_of nodes other ≡ path → ⊥

-- no node has the path
abbrev pub HasNone : List Node → (path : List ℕ) → Type 0
HasNone nodes path = (place : ℕ) → place < length nodes → path_of nodes place ≡ path → ⊥

abbrev pub IsFound : List Node → (path : List ℕ) → Option ℕ → Type 0
IsFound nodes path None = HasNone nodes path
IsFound nodes path (Some place) = IsLeast nodes path place

-- a path finds the least node that has it, and nothing exactly where no node has it
abbrev pub FindsLeast : Type 0
FindsLeast = (nodes : List Node) (path : List ℕ) → IsFound nodes path (find_in nodes path)

-- A node's own path finds a node of that path: the node itself, or one before it.
abbrev pub FindsOwnPath : Type 0
FindsOwnPath = (nodes : List Node) (place : ℕ) → place < length nodes
    → (found : ℕ) × (find_in nodes (path_of nodes place) ≡ Some found) × (found ≤ place) × (path_of nodes found ≡ path_of nodes place)
