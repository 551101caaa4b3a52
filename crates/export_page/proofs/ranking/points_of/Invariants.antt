use Rattle.std.proofs.Common.{◌≡◌, ◌+◌, ◌*◌, ◌^◌, ◌≤◌, ◌++◌, map, drop, codes}
use Rattle.page_parts.specs.Curves.{points_from, points_of}
use Rattle.export_json.specs.Export.{with_totals}
use Rattle.export_page.specs.Page.{heights_of}
use Rattle.export_page.proofs.ranking.points_of.Given as goal

-- what is written, and what is left, are the whole
abbrev pub invariant-loop-row : goal.invariant-loop-row
invariant-loop-row l =
    (l.points.items ++ points_from l.place (map (λ row. row.1) (with_totals l.total (drop l.row-index l.rows))) ≡ points_of (heights_of l.rows))
    × (l.total ≤ l.row-index * 2 ^ 64) × (l.place ≡ l.row-index + 1)
