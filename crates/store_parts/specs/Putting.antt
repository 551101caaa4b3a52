-- Paths put at the nodes that they find.
use Rattle.std.specs.Prelude.{ℕ, List, Option, Some, None, slice_set, Bool, false, is_some}
use Rattle.ucis_model.specs.declared.node.Node.{Node}
use Rattle.ucis_model.specs.Paths.{find_in}

abbrev pub put_node : Option ℕ → (path : List ℕ) → List (Option (List ℕ)) → List (Option (List ℕ))
put_node None path out = out
put_node (Some n) path out = slice_set out n (Some path)

-- the path, if there is one, at the node that it finds, if it finds one
abbrev pub put_path : List Node → Option (List ℕ) → List (Option (List ℕ)) → List (Option (List ℕ))
put_path nodes None out = out
put_path nodes (Some path) out = put_node (find_in nodes path) path out

-- there is a path, and it finds a node
abbrev pub is_put : List Node → Option (List ℕ) → Bool
is_put nodes None = false
is_put nodes (Some path) = is_some (find_in nodes path)
