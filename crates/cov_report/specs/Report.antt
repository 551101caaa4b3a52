-- The report of a history: how many tests it has and which, notes, the coverage of all with what stands below it, that of each
-- type, of its instances and of their items, the illegal bins that were hit, and the ranking of the tests.
use Rattle.std.specs.Prelude.{ℕ, List, [], ◌++◌, codes, length, Bool, ◌&&◌, if◌then◌else◌, bytes_eq}
use Rattle.std.specs.List.{flat_map, list_any}
use Rattle.rank_report.specs.Lines.{rank_text}
use Rattle.design_data.specs.declared.design.Design.{Design}
use Rattle.design_data.specs.declared.infos.InstInfo.{InstInfo}
use Rattle.ucis_model.specs.declared.node.Node.{Node}
use Rattle.ucis_model.specs.declared.answers.CoverRow.{CoverRow}
use Rattle.ucis_model.specs.Paths.{node_at, path_of}
use Rattle.cov_history.specs.declared.entry.Entry.{Entry}
use Rattle.cov_history.specs.Nodes.{children, bins_under}
use Rattle.cov_history.specs.Coverage.{count_at}
use Rattle.cov_history.specs.History.{Test, design_of, tests_of, count_of}
use Rattle.cov_history.specs.Answers.{nodes_at}
use Rattle.store_views.specs.Views.{rows_at, is_illegal_hit, ids_of, ranked_at}
use Rattle.cov_report.specs.Lines.{merge_line, test_line, overall_line, cover_line, item_line, item_word, illegal_line}

-- ---- tests

abbrev pub line_of_test : Test → List ℕ
line_of_test t = test_line t.point t.content.status t.content.id

abbrev pub tests_text : List Test → List ℕ
tests_text tests = merge_line (length tests) ++ flat_map line_of_test tests

-- ---- coverage; `row` is that of each node

-- `option.per_instance` of the instance of this name (IEEE 1800-2017, 19.7)
abbrev pub is_printed : List InstInfo → (name : List ℕ) → Bool
is_printed instances name = list_any (λ inst. bytes_eq inst.name name && inst.print) instances

abbrev pub line_of_item : List Node → (row : ℕ → CoverRow) → ℕ → List ℕ
line_of_item nodes row n = item_line (item_word (node_at nodes n).kind) (path_of nodes n) (row n)

-- its own line, where it is printed, and one for each item
abbrev pub lines_of_instance : List InstInfo → List Node → (row : ℕ → CoverRow) → ℕ → List ℕ
lines_of_instance instances nodes row n =
    (if is_printed instances (node_at nodes n).name then cover_line (codes "instance") (path_of nodes n) (row n) else []) ++ flat_map (line_of_item nodes row) (children nodes n)

abbrev pub lines_of_type : List InstInfo → List Node → (row : ℕ → CoverRow) → ℕ → List ℕ
lines_of_type instances nodes row n =
    cover_line (codes "type") (path_of nodes n) (row n) ++ flat_map (lines_of_instance instances nodes row) (children nodes n)

-- the coverage of all, what stands below it, and each type that has an instance
abbrev pub coverage_text : (below : List ℕ) → List InstInfo → List Node → (row : ℕ → CoverRow) → List ℕ
coverage_text below instances nodes row =
    overall_line (row 0).millionths ++ (below ++ flat_map (lines_of_type instances nodes row) (children nodes 0))

-- ---- illegal bins

abbrev pub line_of_illegal : List Node → (count : ℕ → ℕ) → ℕ → List ℕ
line_of_illegal nodes count n = if is_illegal_hit nodes count n then illegal_line (count_at nodes count n) (path_of nodes n) else []

-- a line for each illegal bin that was hit
abbrev pub illegal_text : List Node → (count : ℕ → ℕ) → List ℕ
illegal_text nodes count = flat_map (line_of_illegal nodes count) (bins_under nodes 0)

-- ---- the whole

unfoldable pub report_text : (notes below : List ℕ) → (opening : Design) → List Entry → List ℕ
report_text notes below opening h =
    tests_text (tests_of h)
    ++ (notes
    ++ (coverage_text below (design_of opening h).instances (nodes_at opening h) (rows_at opening h)
    ++ (illegal_text (nodes_at opening h) (count_of opening h)
    ++ rank_text 1 (ranked_at opening h) (ids_of (tests_of h)))))

-- the same without a line for each test, and without their ranking
unfoldable pub short_text : (notes below : List ℕ) → (opening : Design) → List Entry → List ℕ
short_text notes below opening h =
    merge_line (length (tests_of h))
    ++ (notes
    ++ (coverage_text below (design_of opening h).instances (nodes_at opening h) (rows_at opening h)
    ++ illegal_text (nodes_at opening h) (count_of opening h)))
