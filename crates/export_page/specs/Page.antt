-- The page of a history: its verdict, the illegal bins that were hit, how each type, instance, item and bin stands, the holes,
-- the tests, and their ranking. `opening` is the design that the history begins with, and `digest` the SHA-256 of its text.
use Rattle.std.specs.Prelude.{ℕ, ◌-◌, ◌==◌, nat_lt, nat_le, List, [], ◌∷◌, ◌++◌, codes, length, map, take, filter, count_by, slice_index_or, Bool, not, ◌&&◌, if◌then◌else◌}
use Rattle.hex.specs.Hex.{encode_lower}
use Rattle.markup.specs.Trees.{Markup, Nothing, Both, Text, each, markup_text}
use Rattle.page_parts.specs.Fixed.{front, back}
use Rattle.page_parts.specs.Pieces.{figure_text, figure_count, figure_ratio, overall, left_out}
use Rattle.page_parts.specs.Standings.{details_with}
use Rattle.page_parts.specs.Rows as rows
use Rattle.page_parts.specs.Frames.{table_with, section_with, block}
use Rattle.page_parts.specs.Curves.{points_of, curve}
use Rattle.tally.specs.declared.ranked.Ranked.{Ranked}
use Rattle.design_data.specs.declared.design.Design.{Design}
use Rattle.ucis_model.specs.declared.answers.HistoryNode.{HistoryNode}
use Rattle.ucis_model.specs.Paths.{node_at, path_of}
use Rattle.cov_history.specs.declared.entry.Entry.{Entry}
use Rattle.cov_history.specs.Nodes.{children, bins_under}
use Rattle.cov_history.specs.Coverage.{count_at, at_least}
use Rattle.cov_history.specs.History.{count_of}
use Rattle.cov_history.specs.Answers.{nodes_at, excluded_at}
use Rattle.store_views.specs.Words.{status_word, state_word}
use Rattle.store_views.specs.Views.{rows_at, state_at, is_illegal_hit, ranked_at}
use Rattle.export_json.specs.Export.{test_rows, ids_in, with_totals}
use Rattle.export_lists.specs.Holes.{holes_text}
use Rattle.export_page.specs.Views.{word_of, standing_of, is_met, is_hole, is_of_status, most_bins}

-- ---- the verdict

-- types that are not excluded, and those of them whose goal is met; bins that are not excluded, and those that are covered
unfoldable pub coverage_figures : (opening : Design) → List Entry → Markup
coverage_figures opening h =
    let types = children (nodes_at opening h) 0 in
    let excluded = excluded_at opening h in
    Both (figure_ratio (codes "Types met") (length (filter (is_met (rows_at opening h)) types)) (length (filter (λ n. not (excluded n)) types)))
    (figure_ratio (codes "Bins covered") (rows_at opening h 0).covered (rows_at opening h 0).bins)

-- how many tests ended with this status
abbrev pub status_figure : List HistoryNode → (status : ℕ) → Markup
status_figure tests status = figure_count (status_word status) (count_by (is_of_status status) tests)

unfoldable pub test_figures : List HistoryNode → Markup
test_figures tests =
    Both (figure_count (codes "Tests") (length tests)) (Both (status_figure tests 0) (Both (status_figure tests 1) (Both (status_figure tests 2) (status_figure tests 3))))

-- the illegal bins that were hit (IEEE 1800-2017, 19.5.6)
abbrev pub illegal_at : (opening : Design) → List Entry → List ℕ
illegal_at opening h = filter (is_illegal_hit (nodes_at opening h) (count_of opening h)) (bins_under (nodes_at opening h) 0)

-- the bins that are excluded, or stand in what is
abbrev pub out_at : (opening : Design) → List Entry → List ℕ
out_at opening h = filter (excluded_at opening h) (bins_under (nodes_at opening h) 0)

unfoldable pub bin_figures : (opening : Design) → List Entry → Markup
bin_figures opening h =
    Both (figure_count (codes "Illegal bins hit") (length (illegal_at opening h))) (figure_count (codes "Bins excluded") (length (out_at opening h)))

unfoldable pub point_figures : List Entry → (digest : List ℕ) → Markup
point_figures h digest = Both (figure_count (codes "Point of the history") (length h)) (figure_text (codes "SHA-256 of the design") (encode_lower digest))

unfoldable pub history_figures : (opening : Design) → List Entry → (digest : List ℕ) → Markup
history_figures opening h digest = Both (bin_figures opening h) (point_figures h digest)

unfoldable pub verdict_figures : (opening : Design) → List Entry → (digest : List ℕ) → Markup
verdict_figures opening h digest =
    block (codes "dl") (Both (coverage_figures opening h) (Both (test_figures (test_rows h)) (history_figures opening h digest)))

unfoldable pub verdict_part : (opening : Design) → List Entry → (digest : List ℕ) → Markup
verdict_part opening h digest =
    section_with (codes "verdict") (codes "Verdict") (Both (overall (rows_at opening h 0).millionths) (verdict_figures opening h digest))

-- ---- illegal bins that were hit

unfoldable pub illegal_row : (opening : Design) → List Entry → ℕ → Markup
illegal_row opening h n = rows.illegal_row (path_of (nodes_at opening h) n) (count_at (nodes_at opening h) (count_of opening h) n)

abbrev pub illegal_columns : List (List ℕ)
illegal_columns = codes "Bin" ∷ codes "Count" ∷ []

unfoldable pub illegal_table : (opening : Design) → List Entry → List ℕ → Markup
illegal_table opening h bins = section_with (codes "illegal") (codes "Illegal bins hit") (table_with (codes "Illegal bins that were hit") illegal_columns (each (illegal_row opening h) bins))

-- nothing where there is none
unfoldable pub illegal_or_none : (opening : Design) → List Entry → List ℕ → Markup
illegal_or_none opening h bins = if nat_lt 0 (length bins) then illegal_table opening h bins else Nothing

abbrev pub illegal_part : (opening : Design) → List Entry → Markup
illegal_part opening h = illegal_or_none opening h (illegal_at opening h)

-- ---- bins (19.5)

unfoldable pub bin_row : (opening : Design) → List Entry → ℕ → Markup
bin_row opening h n =
    let nodes = nodes_at opening h in
    rows.bin_row (node_at nodes n).name (count_at nodes (count_of opening h) n) (at_least nodes n) (state_word (state_at nodes (count_of opening h) (excluded_at opening h) n))

abbrev pub bin_columns : List (List ℕ)
bin_columns = codes "Bin" ∷ codes "Count" ∷ codes "At least" ∷ codes "State" ∷ []

unfoldable pub bin_table : (opening : Design) → List Entry → (caption : List ℕ) → List ℕ → Markup
bin_table opening h caption bins = table_with caption bin_columns (each (bin_row opening h) bins)

-- the holes among these bins
abbrev pub holes_among : (opening : Design) → List Entry → List ℕ → List ℕ
holes_among opening h bins = filter (is_hole (nodes_at opening h) (count_of opening h) (excluded_at opening h)) bins

-- so many holes at most, and how many more there are
unfoldable pub hole_table : (opening : Design) → List Entry → (bins : ℕ) → (holes : List ℕ) → Markup
hole_table opening h bins holes = Both (left_out bins (length holes - most_bins)) (bin_table opening h (codes "Holes") (take most_bins holes))

-- the bins of an item; of many only the holes
unfoldable pub bins_part : (opening : Design) → List Entry → List ℕ → Markup
bins_part opening h bins = if nat_le (length bins) most_bins then bin_table opening h (codes "Bins") bins else hole_table opening h (length bins) (holes_among opening h bins)

-- ---- types, instances and items (19.3, 19.5, 19.6)

-- the node at a place, with what stands under it
abbrev pub node_with : (opening : Design) → List Entry → ℕ → (inside : Markup) → Markup
node_with opening h n inside =
    let node = node_at (nodes_at opening h) n in
    details_with (word_of node.kind) node.name (standing_of (rows_at opening h n) node.goal) inside

unfoldable pub item_part : (opening : Design) → List Entry → ℕ → Markup
item_part opening h n = node_with opening h n (bins_part opening h (bins_under (nodes_at opening h) n))

unfoldable pub instance_part : (opening : Design) → List Entry → ℕ → Markup
instance_part opening h n = node_with opening h n (each (item_part opening h) (children (nodes_at opening h) n))

unfoldable pub type_part : (opening : Design) → List Entry → ℕ → Markup
type_part opening h n = node_with opening h n (each (instance_part opening h) (children (nodes_at opening h) n))

unfoldable pub types_part : (opening : Design) → List Entry → Markup
types_part opening h = section_with (codes "types") (codes "Types, instances and items") (each (type_part opening h) (children (nodes_at opening h) 0))

-- ---- holes, as lines of text

unfoldable pub holes_part : (opening : Design) → List Entry → Markup
holes_part opening h = section_with (codes "holes") (codes "Holes") (block (codes "pre") (Text (holes_text opening h)))

-- ---- tests, in order of admission

unfoldable pub test_row : HistoryNode → Markup
test_row t = rows.test_row t.id (status_word t.status) t.seed t.time t.user

abbrev pub test_columns : List (List ℕ)
test_columns = codes "Test" ∷ codes "Status" ∷ codes "Seed" ∷ codes "Time" ∷ codes "User" ∷ []

unfoldable pub tests_part : List HistoryNode → Markup
tests_part tests = section_with (codes "tests") (codes "Tests") (table_with (codes "Tests in order of admission") test_columns (each test_row tests))

-- ---- the ranking of the tests

-- a row with the sum of the gains so far; its test's id is among these
unfoldable pub ranked_row : (ids : List (List ℕ)) → Ranked × ℕ → Markup
ranked_row ids row = rows.ranked_row (slice_index_or ids row.0.test []) row.0.gain row.1

abbrev pub ranked_columns : List (List ℕ)
ranked_columns = codes "Test" ∷ codes "Gain" ∷ codes "Covered" ∷ []

unfoldable pub ranked_table : (ids : List (List ℕ)) → List Ranked → Markup
ranked_table ids ranked = table_with (codes "The best test first: the bins that each adds, and the sum") ranked_columns (each (ranked_row ids) (with_totals 0 ranked))

abbrev pub heights_of : List Ranked → List ℕ
heights_of ranked = map (λ row. row.1) (with_totals 0 ranked)

-- with the curve of these sums among so many bins
unfoldable pub ranking_part : (ids : List (List ℕ)) → (bins : ℕ) → List Ranked → Markup
ranking_part ids bins ranked =
    section_with (codes "ranking") (codes "Ranking") (Both (curve (length ranked) bins (points_of (heights_of ranked))) (ranked_table ids ranked))

-- ---- the whole

unfoldable pub coverage_parts : (opening : Design) → List Entry → (digest : List ℕ) → Markup
coverage_parts opening h digest = Both (illegal_part opening h) (Both (verdict_part opening h digest) (Both (types_part opening h) (holes_part opening h)))

-- `tests` are the rows of the history's tests
unfoldable pub test_parts : (opening : Design) → List Entry → (tests : List HistoryNode) → Markup
test_parts opening h tests = Both (tests_part tests) (ranking_part (ids_in tests) (rows_at opening h 0).bins (ranked_at opening h))

abbrev pub page_tree : (opening : Design) → List Entry → (digest : List ℕ) → Markup
page_tree opening h digest = Both (coverage_parts opening h digest) (test_parts opening h (test_rows h))

-- its text, between a front and an end that are always the same
unfoldable pub page_text : (opening : Design) → List Entry → (digest : List ℕ) → List ℕ
page_text opening h digest = front ++ (markup_text (page_tree opening h digest) ++ back)
