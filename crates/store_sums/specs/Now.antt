-- What running sums say of a design's nodes.
use Rattle.std.specs.Prelude.{ℕ, List, map, slice_index, slice_index_or, Option, None, option_map, is_some, Bool}
use Rattle.std.specs.Arc.{arc_value}
use Rattle.ucis_model.specs.Above as above
use Rattle.ucis_model.specs.declared.node.Node.{Node}
use Rattle.ucis_model.specs.Nodes.{nodes_of}
use Rattle.cov_history.specs.Nodes.{parents_of}
use Rattle.store_sums.specs.declared.sums.Sums.{Sums}

-- a path stands at the node, or at one above it
unfoldable pub excluded_by : List Node → (out : List (Option (List ℕ))) → ℕ → Bool
excluded_by nodes out n = above.is_excluded (parents_of nodes) (λ m. is_some (slice_index_or out m None)) n

-- the nodes of the design
abbrev pub nodes_now : Sums → List Node
nodes_now s = nodes_of s.design

-- the path at each node that is out itself
abbrev pub outs_now : Sums → List (Option (List ℕ))
outs_now s = map (λ p. option_map arc_value p) s.out.items

-- whether a node or one above it is out
abbrev pub excluded_now : Sums → ℕ → Bool
excluded_now s = excluded_by (nodes_now s) (outs_now s)

abbrev pub count_now : Sums → ℕ → ℕ
count_now s bin = slice_index s.counts.items bin
