-- The export of a history as a value of JSON: its design, its tests, the coverage of all, each type with its instances, their
-- items and their bins, the illegal bins that were hit, and the ranking of the tests.
use Rattle.std.specs.Prelude.{ℕ, ◌+◌, Bool, List, [], ◌∷◌, codes, length, map, filter, slice_index_or}
use Rattle.hex.specs.Hex.{encode_lower}
use Rattle.json_text.specs.Json.{Json}
use Rattle.json_text.specs.Values.{text, number, truth, array_of, Member, object_of, line_of}
use Rattle.tally.specs.declared.ranked.Ranked.{Ranked}
use Rattle.design_data.specs.declared.design.Design.{Design}
use Rattle.design_data.specs.declared.infos.BinKind.{BinKind}
use Rattle.bin_words.specs.Words.{kind_word}
use Rattle.ucis_model.specs.declared.node.Node.{Node}
use Rattle.ucis_model.specs.declared.node.NodeKind.{NodeKind}
use Rattle.ucis_model.specs.declared.node.NodeKind.TheVariants.{Root, CoverGroup, CoverInstance, CoverPoint, Cross, Bin}
use Rattle.ucis_model.specs.declared.answers.CoverRow.{CoverRow}
use Rattle.ucis_model.specs.declared.answers.HistoryNode.{HistoryNode}
use Rattle.ucis_model.specs.Paths.{node_at, path_of}
use Rattle.cov_history.specs.declared.entry.Entry.{Entry}
use Rattle.cov_history.specs.Nodes.{children, bins_under, kind_of_bin}
use Rattle.cov_history.specs.Coverage.{count_at}
use Rattle.cov_history.specs.History.{tests_of, count_of}
use Rattle.cov_history.specs.Answers.{nodes_at, excluded_at, test_row}
use Rattle.store_views.specs.declared.state.BinState.{BinState}
use Rattle.store_views.specs.Version.{version}
use Rattle.store_views.specs.Words.{status_word, state_word}
use Rattle.store_views.specs.Views.{rows_at, state_at, is_illegal_hit, ranked_at}

-- a digest in hexadecimal digits
abbrev pub digest_value : List ℕ → Json
digest_value digest = text (encode_lower digest)

-- coverage in millionths
unfoldable pub millionths_member : ℕ → Member
millionths_member millionths = (codes "millionths", number millionths)

-- how many coverage bins are not excluded
unfoldable pub bins_total_member : ℕ → Member
bins_total_member bins = (codes "bins_total", number bins)

-- ---- tests, in order of admission

-- its id, how it ended, and what its record says of the run
abbrev pub run_members : HistoryNode → List Member → List Member
run_members row more = (codes "id", text row.id) ∷ (codes "status", text (status_word row.status)) ∷ (codes "seed", number row.seed) ∷ (codes "time", number row.time) ∷ more

-- the same, its user, the point after its admission, and the SHA-256 of its record
abbrev pub test_members : HistoryNode → List Member
test_members row = run_members row ((codes "user", text row.user) ∷ (codes "point", number row.point) ∷ (codes "sha256", digest_value row.digest) ∷ [])

unfoldable pub test_value : HistoryNode → Json
test_value row = object_of (test_members row)

abbrev pub test_rows : List Entry → List HistoryNode
test_rows h = map test_row (tests_of h)

-- ---- bins (IEEE 1800-2017, 19.5)

abbrev pub bin_members : (name : List ℕ) → BinKind → (count : ℕ) → BinState → List Member
bin_members name kind count state = (codes "name", text name) ∷ (codes "kind", text (kind_word kind)) ∷ (codes "count", number count) ∷ (codes "state", text (state_word state)) ∷ []

-- those of the node at a place
abbrev pub bin_members_at : List Node → (count : ℕ → ℕ) → (excluded : ℕ → Bool) → ℕ → List Member
bin_members_at nodes count excluded n = bin_members (node_at nodes n).name (kind_of_bin nodes n) (count_at nodes count n) (state_at nodes count excluded n)

unfoldable pub bin_value : (opening : Design) → List Entry → ℕ → Json
bin_value opening h n = object_of (bin_members_at (nodes_at opening h) (count_of opening h) (excluded_at opening h) n)

unfoldable pub bins_value : (opening : Design) → List Entry → ℕ → Json
bins_value opening h n = array_of (bin_value opening h) (bins_under (nodes_at opening h) n)

-- ---- coverpoints and crosses (19.5, 19.6), each with its bins

abbrev pub item_word : NodeKind → List ℕ
item_word Cross = codes "cross"
item_word CoverPoint = codes "coverpoint"
item_word Root = codes "coverpoint"
item_word CoverGroup = codes "coverpoint"
item_word CoverInstance = codes "coverpoint"
item_word (Bin kind) = codes "coverpoint"

-- its coverage and its options (19.7)
abbrev pub goal_members : (path : List ℕ) → CoverRow → Node → List Member → List Member
goal_members path row node more =
    (codes "path", text path) ∷ (codes "kind", text (item_word node.kind)) ∷ millionths_member row.millionths ∷ (codes "goal", number node.goal) ∷ (codes "at_least", number node.at_least) ∷ more

-- the same, and how many of its bins are covered
abbrev pub item_members : (path : List ℕ) → CoverRow → Node → List Member → List Member
item_members path row node more =
    goal_members path row node ((codes "met", truth row.met) ∷ (codes "covered", number row.covered) ∷ bins_total_member row.bins ∷ (codes "excluded", truth row.excluded) ∷ more)

unfoldable pub item_value : (opening : Design) → List Entry → ℕ → Json
item_value opening h n =
    object_of (item_members (path_of (nodes_at opening h) n) (rows_at opening h n) (node_at (nodes_at opening h) n) ((codes "bins", bins_value opening h n) ∷ []))

unfoldable pub items_value : (opening : Design) → List Entry → ℕ → Json
items_value opening h n = array_of (item_value opening h) (children (nodes_at opening h) n)

-- ---- instances with their items, and types with their instances

-- its coverage, and its options (19.7, 19.7.1)
abbrev pub cover_members : (path : List ℕ) → CoverRow → Node → List Member → List Member
cover_members path row node more =
    (codes "path", text path) ∷ millionths_member row.millionths ∷ (codes "goal", number node.goal) ∷ (codes "met", truth row.met)
    ∷ (codes "weight", number node.weight) ∷ (codes "excluded", truth row.excluded) ∷ more

-- the members of the node at a place
abbrev pub members_at : (opening : Design) → List Entry → ℕ → List Member → List Member
members_at opening h n more = cover_members (path_of (nodes_at opening h) n) (rows_at opening h n) (node_at (nodes_at opening h) n) more

unfoldable pub instance_value : (opening : Design) → List Entry → ℕ → Json
instance_value opening h n = object_of (members_at opening h n ((codes "items", items_value opening h n) ∷ []))

unfoldable pub instances_value : (opening : Design) → List Entry → ℕ → Json
instances_value opening h n = array_of (instance_value opening h) (children (nodes_at opening h) n)

unfoldable pub type_value : (opening : Design) → List Entry → ℕ → Json
type_value opening h n = object_of (members_at opening h n ((codes "instances", instances_value opening h n) ∷ []))

unfoldable pub types_value : (opening : Design) → List Entry → Json
types_value opening h = array_of (type_value opening h) (children (nodes_at opening h) 0)

-- ---- illegal bins that were hit (19.5.6)

unfoldable pub illegal_value : (opening : Design) → List Entry → ℕ → Json
illegal_value opening h n =
    let nodes = nodes_at opening h in
    object_of ((codes "path", text (path_of nodes n)) ∷ (codes "count", number (count_at nodes (count_of opening h) n)) ∷ [])

unfoldable pub all_illegal_value : (opening : Design) → List Entry → Json
all_illegal_value opening h =
    let nodes = nodes_at opening h in
    array_of (illegal_value opening h) (filter (is_illegal_hit nodes (count_of opening h)) (bins_under nodes 0))

-- ---- the ranking of the tests

-- each row with the sum of its gain and of those before it, where this much was gained before the first
abbrev pub with_totals : (before : ℕ) → List Ranked → List (Ranked × ℕ)
with_totals before [] = []
with_totals before (row ∷ rows) = (row, before + row.gain) ∷ with_totals (before + row.gain) rows

abbrev pub ids_in : List HistoryNode → List (List ℕ)
ids_in rows = map (λ row. row.id) rows

-- a row with that sum; its test's id is among these
unfoldable pub ranked_value : (ids : List (List ℕ)) → Ranked × ℕ → Json
ranked_value ids row =
    object_of ((codes "id", text (slice_index_or ids row.0.test [])) ∷ (codes "gain", number row.0.gain) ∷ (codes "total", number row.1) ∷ [])

unfoldable pub ranking_value : (ids : List (List ℕ)) → List Ranked → Json
ranking_value ids rows = array_of (ranked_value ids) (with_totals 0 rows)

-- ---- the whole

unfoldable pub design_value : (digest : List ℕ) → Json
design_value digest = object_of ((codes "sha256", digest_value digest) ∷ [])

unfoldable pub overall_value : (millionths : ℕ) → Json
overall_value millionths = object_of (millionths_member millionths ∷ [])

unfoldable pub tests_value : List HistoryNode → Json
tests_value rows = array_of test_value rows

-- `digest` is the SHA-256 of the design's text, and `rows` are those of the tests
abbrev pub export_members : (opening : Design) → List Entry → (digest : List ℕ) → (rows : List HistoryNode) → List Member
export_members opening h digest rows =
    (codes "covd", text version) ∷ (codes "point", number (length h)) ∷ (codes "design", design_value digest) ∷ (codes "tests", tests_value rows)
    ∷ (codes "overall", overall_value (rows_at opening h 0).millionths) ∷ (codes "types", types_value opening h)
    ∷ (codes "illegal", all_illegal_value opening h) ∷ (codes "ranking", ranking_value (ids_in rows) (ranked_at opening h)) ∷ []

unfoldable pub export_value : (opening : Design) → List Entry → (digest : List ℕ) → Json
export_value opening h digest = object_of (export_members opening h digest (test_rows h))

-- its text, on one line
unfoldable pub json_of : (opening : Design) → List Entry → (digest : List ℕ) → List ℕ
json_of opening h digest = line_of (export_value opening h digest)
