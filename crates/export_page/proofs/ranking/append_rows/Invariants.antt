use Rattle.std.proofs.Common.{◌≡◌, ◌*◌, ◌^◌, ◌≤◌, ◌++◌, drop}
use Rattle.markup.specs.Trees.{each, markup_text}
use Rattle.export_json.specs.Export.{ids_in, with_totals}
use Rattle.export_page.specs.Page.{ranked_row}
use Rattle.export_page.proofs.ranking.append_rows.Given as goal

-- what is written, and what is left, are the whole
abbrev pub invariant-loop-row : goal.invariant-loop-row
invariant-loop-row l =
    (l.text.items ++ markup_text (each (ranked_row (ids_in l.tests)) (with_totals l.total (drop l.row-index l.rows))) ≡ l.fn.text.items ++ markup_text (each (ranked_row (ids_in l.tests)) (with_totals 0 l.rows)))
    × (l.total ≤ l.row-index * 2 ^ 64)
