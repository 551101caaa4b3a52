-- Which nodes of a design a pattern leaves out.
use Rattle.std.specs.Prelude.{ℕ, ◌+◌, List, [], ◌∷◌, length, map, filter, Bool, if◌then◌else◌}
use Rattle.std.specs.List.{range_with_len}
use Rattle.ucis_model.specs.declared.node.Node.{Node}
use Rattle.ucis_model.specs.Paths.{path_of}
use Rattle.waivers.specs.Patterns.{is_match}

-- the numbers of the nodes whose paths the pattern matches, ascending
abbrev pub waived : (pattern : List ℕ) → List Node → List ℕ
waived pattern nodes = filter (λ node. is_match pattern (path_of nodes node)) (range_with_len 0 (length nodes))

-- the paths of all nodes, in order
abbrev pub paths_in : List Node → List (List ℕ)
paths_in nodes = map (path_of nodes) (range_with_len 0 (length nodes))

-- the places of the paths that pass, where the first has this one
unfoldable pub places_where : (List ℕ → Bool) → (first : ℕ) → List (List ℕ) → List ℕ
places_where test first [] = []
places_where test first (path ∷ paths) =
    if test path then first ∷ places_where test (first + 1) paths else places_where test (first + 1) paths

-- the places of the paths that the pattern matches, ascending
abbrev pub waived_among : (pattern : List ℕ) → List (List ℕ) → List ℕ
waived_among pattern paths = places_where (is_match pattern) 0 paths
