-- Nodes above a node, and nodes that are out with all below them, in a tree that is told by the parents of its nodes. Each
-- node but node 0, the root, has a parent of a smaller number.
use Rattle.std.specs.Prelude.{◌≡◌, ◌==◌, ℕ, zero, suc, ◌<◌, ◌||◌, List, [], ◌∷◌, length, slice_index, Bool, false, if◌then◌else◌}
use Rattle.std.specs.List.{list_any}

-- the node and those above it, up to so many
abbrev pub some_lineage : ℕ → List ℕ → ℕ → List ℕ
some_lineage zero parents node = []
some_lineage (suc most) parents node = node ∷ (if node == 0 then [] else some_lineage most parents (slice_index parents node))

-- the node and those above it. There are no more than its number and one, since each parent is smaller
abbrev pub lineage : List ℕ → ℕ → List ℕ
lineage parents node = some_lineage (suc node) parents node

-- the node or one above it is out
abbrev pub is_excluded : List ℕ → (ℕ → Bool) → ℕ → Bool
is_excluded parents is_out node = list_any is_out (lineage parents node)

-- each node but node 0 has a smaller parent
abbrev pub AreSmallerParents : List ℕ → Type 0
AreSmallerParents parents = (node : ℕ) → 0 < node → node < length parents → slice_index parents node < node

-- ---- laws

-- node 0 is excluded where it is out, and every other node where it is out or its parent is excluded
abbrev pub ExcludedFromAbove : Type 0
ExcludedFromAbove = (parents : List ℕ) (out : ℕ → Bool) (node : ℕ) → AreSmallerParents parents → node < length parents
    → is_excluded parents out node
    ≡ (out node || (if node == 0 then false else is_excluded parents out (slice_index parents node)))
