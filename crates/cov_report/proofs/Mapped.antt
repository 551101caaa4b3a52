-- Rows of tests as tests.
use Rattle.std.proofs.Common.{◌≡◌, ℕ, List, [], ◌∷◌, ◌++◌, length, map, refl, ap, ◌∙◌}
use Rattle.std.specs.List.{flat_map}
use Rattle.std.proofs.lemmas.List.{length-map}
use Rattle.ucis_model.specs.declared.answers.HistoryNode.{HistoryNode}
use Rattle.cov_history.specs.History.{Test}
use Rattle.cov_history.specs.Answers.{test_row}
use Rattle.cov_report.specs.Lines.{merge_line, test_line}
use Rattle.cov_report.specs.Report.{line_of_test, tests_text}
use Rattle.store_views.specs.Views.{ids_of}

-- the lines of rows
abbrev pub rows_text : List HistoryNode → List ℕ
rows_text rows = merge_line (length rows) ++ flat_map (λ row. test_line row.point row.status row.id) rows

lines_are : (tests : List Test) → flat_map (λ row. test_line row.point row.status row.id) (map test_row tests) ≡ flat_map line_of_test tests
lines_are [] = refl
lines_are (t ∷ tests) = ap (λ (text : List ℕ). line_of_test t ++ text) (lines_are tests)

pub tests_are : (rows : List HistoryNode) (tests : List Test) → rows ≡ map test_row tests → rows_text rows ≡ tests_text tests
tests_are rows tests e = ap rows_text e ∙ (λ i. merge_line (length-map tests test_row i) ++ lines_are tests i)

ids_mapped : (tests : List Test) → map (λ (row : HistoryNode). row.id) (map test_row tests) ≡ ids_of tests
ids_mapped [] = refl
ids_mapped (t ∷ tests) = ap (λ (ids : List (List ℕ)). t.content.id ∷ ids) (ids_mapped tests)

pub ids_are : (rows : List HistoryNode) (tests : List Test) → rows ≡ map test_row tests → map (λ (row : HistoryNode). row.id) rows ≡ ids_of tests
ids_are rows tests e = ap (map (λ (row : HistoryNode). row.id)) e ∙ ids_mapped tests
