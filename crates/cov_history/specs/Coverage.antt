-- Coverage of a node, from the counts of bins by number and from which nodes are excluded (IEEE 1800-2017, 19.11).
use Rattle.std.specs.Prelude.{ℕ, max, List, [], ◌∷◌, ◌++◌, length, map, fold, filter, sum_by, count_by, slice_index, Bool, false, ◌==◌, ◌&&◌, not, if◌then◌else◌, nat_lt, nat_le, bytes_eq}
use Rattle.std.specs.List.{list_any}
use Rattle.std.specs.Option.{option_map_or}
use Rattle.design_data.specs.Bins.{is_coverage}
use Rattle.ucis_model.specs.Above as above
use Rattle.percent.specs.Millionths.{full, mean}
use Rattle.ucis_model.specs.declared.node.Node.{Node}
use Rattle.ucis_model.specs.declared.node.NodeKind.{NodeKind}
use Rattle.ucis_model.specs.declared.node.NodeKind.TheVariants.{Root, CoverGroup, CoverInstance, CoverPoint, Cross, Bin}
use Rattle.ucis_model.specs.Paths.{node_at, find_in}
use Rattle.cov_history.specs.Nodes.{parents_of, children, bins_under, kind_of_bin}

-- ---- exclusion

-- it is the node that a path that is out finds
abbrev pub is_out : List Node → (out : List (List ℕ)) → ℕ → Bool
is_out nodes out n = list_any (λ path. option_map_or (λ m. m == n) (find_in nodes path) false) out

-- it or a node above it is out
unfoldable pub is_excluded : List Node → (out : List (List ℕ)) → ℕ → Bool
is_excluded nodes out n = above.is_excluded (parents_of nodes) (is_out nodes out) n

-- a coverage bin that isn't excluded
abbrev pub is_live : List Node → (excluded : ℕ → Bool) → ℕ → Bool
is_live nodes excluded n = is_coverage (kind_of_bin nodes n) && not (excluded n)

-- the live bins under a node
abbrev pub live_under : List Node → (excluded : ℕ → Bool) → ℕ → List ℕ
live_under nodes excluded n = filter (is_live nodes excluded) (bins_under nodes n)

-- ---- covered bins

abbrev pub count_at : List Node → (count : ℕ → ℕ) → ℕ → ℕ
count_at nodes count n = count (node_at nodes n).first_bin

abbrev pub at_least : List Node → ℕ → ℕ
at_least nodes n = (node_at nodes n).at_least

abbrev pub is_covered : List Node → (count : ℕ → ℕ) → ℕ → Bool
is_covered nodes count n = nat_le (at_least nodes n) (count_at nodes count n)

-- how many live bins under a node are covered
abbrev pub covered_under : List Node → (count : ℕ → ℕ) → (excluded : ℕ → Bool) → ℕ → ℕ
covered_under nodes count excluded n = count_by (is_covered nodes count) (live_under nodes excluded n)

-- ---- without merging

-- of an item, and of a bin, which counts itself
unfoldable pub item_coverage : List Node → (count : ℕ → ℕ) → (excluded : ℕ → Bool) → ℕ → ℕ
item_coverage nodes count excluded n = full (covered_under nodes count excluded n) (length (live_under nodes excluded n))

-- each node with its weight
abbrev pub weighed : List Node → (ℕ → ℕ) → List ℕ → List (ℕ × ℕ)
weighed nodes coverage ns = map (λ m. ((node_at nodes m).weight, coverage m)) ns

abbrev pub has_live : List Node → (excluded : ℕ → Bool) → ℕ → Bool
has_live nodes excluded n = nat_lt 0 (length (live_under nodes excluded n))

-- the mean over its items that have a live bin
unfoldable pub instance_coverage : List Node → (count : ℕ → ℕ) → (excluded : ℕ → Bool) → ℕ → ℕ
instance_coverage nodes count excluded n = mean (weighed nodes (item_coverage nodes count excluded) (filter (has_live nodes excluded) (children nodes n)))

-- the nodes right below it that aren't excluded
abbrev pub unexcluded : List Node → (excluded : ℕ → Bool) → ℕ → List ℕ
unexcluded nodes excluded n = filter (λ m. not (excluded m)) (children nodes n)

unfoldable pub plain_coverage : List Node → (count : ℕ → ℕ) → (excluded : ℕ → Bool) → ℕ → ℕ
plain_coverage nodes count excluded n = mean (weighed nodes (instance_coverage nodes count excluded) (unexcluded nodes excluded n))

-- ---- with merging: `type_option.merge_instances` (19.7.1)

-- each name once, in the order of its first place
abbrev pub once : List (List ℕ) → List (List ℕ)
once names = fold (λ done name. if list_any (bytes_eq name) done then done else done ++ name ∷ []) [] names

abbrev pub bin_name : List Node → ℕ → List ℕ
bin_name nodes n = (node_at nodes n).name

abbrev pub item_of : List Node → ℕ → Node
item_of nodes n = node_at nodes (node_at nodes n).parent

abbrev pub item_name : List Node → ℕ → List ℕ
item_name nodes n = (item_of nodes n).name

-- those of the bins that have this name
abbrev pub named : (name_of : ℕ → List ℕ) → (name : List ℕ) → List ℕ → List ℕ
named name_of name bins = filter (λ n. bytes_eq (name_of n) name) bins

-- bins of one name are one: counts added, the greatest `at_least`
abbrev pub is_covered_as_one : List Node → (count : ℕ → ℕ) → List ℕ → Bool
is_covered_as_one nodes count bins = nat_le (fold max 0 (map (at_least nodes) bins)) (sum_by (count_at nodes count) bins)

-- items of one name are one, with these live bins
abbrev pub merged_item : List Node → (count : ℕ → ℕ) → List ℕ → ℕ
merged_item nodes count bins =
    let names = once (map (bin_name nodes) bins) in
    full (count_by (λ name. is_covered_as_one nodes count (named (bin_name nodes) name bins)) names) (length names)

-- the type's weight of the bins' item
abbrev pub type_weight : List Node → List ℕ → ℕ
type_weight nodes bins = slice_index (map (λ n. (item_of nodes n).type_weight) bins) 0

-- the mean over the names of items that have a live bin
unfoldable pub merged_coverage : List Node → (count : ℕ → ℕ) → (excluded : ℕ → Bool) → ℕ → ℕ
merged_coverage nodes count excluded n =
    let bins = live_under nodes excluded n in
    mean (map (λ name. let mine = named (item_name nodes) name bins in (type_weight nodes mine, merged_item nodes count mine)) (once (map (item_name nodes) bins)))

-- ---- types, and all of them

unfoldable pub type_coverage : List Node → (count : ℕ → ℕ) → (excluded : ℕ → Bool) → ℕ → ℕ
type_coverage nodes count excluded n = if (node_at nodes n).merge then merged_coverage nodes count excluded n else plain_coverage nodes count excluded n

unfoldable pub root_coverage : List Node → (count : ℕ → ℕ) → (excluded : ℕ → Bool) → ℕ → ℕ
root_coverage nodes count excluded n = mean (weighed nodes (type_coverage nodes count excluded) (unexcluded nodes excluded n))

abbrev pub coverage_by : NodeKind → List Node → (count : ℕ → ℕ) → (excluded : ℕ → Bool) → ℕ → ℕ
coverage_by Root nodes count excluded n = root_coverage nodes count excluded n
coverage_by CoverGroup nodes count excluded n = type_coverage nodes count excluded n
coverage_by CoverInstance nodes count excluded n = instance_coverage nodes count excluded n
coverage_by CoverPoint nodes count excluded n = item_coverage nodes count excluded n
coverage_by Cross nodes count excluded n = item_coverage nodes count excluded n
coverage_by (Bin kind) nodes count excluded n = item_coverage nodes count excluded n

-- in millionths
unfoldable pub coverage : List Node → (count : ℕ → ℕ) → (excluded : ℕ → Bool) → ℕ → ℕ
coverage nodes count excluded n = coverage_by (node_at nodes n).kind nodes count excluded n
