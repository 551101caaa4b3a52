-- The tests of a history, and what they make together, as history nodes of the interchange format.
use Rattle.std.specs.Prelude.{ℕ, ◌+◌, nat_lt, Bool, true, List, [], ◌∷◌, ◌++◌, codes}
use Rattle.markup.specs.Trees.{Markup, Nothing, Both, Element, Empty, Attribute, attribute, number, truth, line}
use Rattle.ucis_model.specs.declared.answers.HistoryNode.{HistoryNode}
use Rattle.store_views.specs.Version.{version}
use Rattle.store_views.specs.Words.{status_word}
use Rattle.ucis_elements.specs.Words.{user_attr}

-- the version of the format
abbrev pub format_version : List ℕ
format_version = codes "1.0"

-- each time: a history has no clock
abbrev pub no_time : List ℕ
no_time = codes "1970-01-01T00:00:00Z"

-- ---- what made a node

unfoldable pub tool_versions : List Attribute
tool_versions =
    attribute (codes "ucisVersion") format_version ∷ attribute (codes "vendorId") (codes "covd")
    ∷ attribute (codes "vendorTool") (codes "covd") ∷ attribute (codes "vendorToolVersion") version ∷ []

unfoldable pub tool_attributes : (category : List ℕ) → List Attribute
tool_attributes category = attribute (codes "date") no_time ∷ attribute (codes "toolCategory") category ∷ tool_versions

-- ---- what all tests make together: the first node, below which they stand

unfoldable pub merge_id : List Attribute
merge_id =
    number (codes "historyNodeId") 0 ∷ attribute (codes "logicalName") (codes "merge") ∷ attribute (codes "kind") (codes "MERGE")
    ∷ truth (codes "testStatus") true ∷ []

unfoldable pub merge_node : Markup
merge_node = line (Empty (codes "historyNodes") (merge_id ++ tool_attributes (codes "UCIS:Merge")))

-- ---- tests

-- it ended with OK or WARNING
abbrev pub has_passed : (status : ℕ) → Bool
has_passed status = nat_lt status 2

-- its number and its id
unfoldable pub test_id : (id : ℕ) → HistoryNode → List Attribute
test_id id row =
    number (codes "historyNodeId") id ∷ number (codes "parentId") 0 ∷ attribute (codes "logicalName") row.id
    ∷ attribute (codes "kind") (codes "TEST") ∷ []

-- what its record says of the run
unfoldable pub run_attributes : HistoryNode → List Attribute
run_attributes row =
    truth (codes "testStatus") (has_passed row.status) ∷ number (codes "simtime") row.time ∷ number (codes "seed") row.seed
    ∷ attribute (codes "userName") row.user ∷ []

abbrev pub test_attributes : (id : ℕ) → HistoryNode → List Attribute
test_attributes id row = test_id id row ++ (run_attributes row ++ tool_attributes (codes "UCIS:Simulator"))

-- with the word of its status, for which the format has no attribute
unfoldable pub test_node : (id : ℕ) → HistoryNode → Markup
test_node id row = line (Element (codes "historyNodes") (test_attributes id row) (user_attr (codes "status") (status_word row.status)))

-- tests, of which the first has this number
abbrev pub test_nodes : (id : ℕ) → List HistoryNode → Markup
test_nodes id [] = Nothing
test_nodes id (row ∷ rows) = Both (test_node id row) (test_nodes (id + 1) rows)
