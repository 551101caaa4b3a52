use Rattle.std.proofs.Common.{◌≡◌, ◌*◌, ◌^◌, ◌≤◌, ◌++◌, drop}
use Rattle.json_text.specs.Values.{all_tokens}
use Rattle.export_json.specs.Export.{ids_in, with_totals, ranked_value}
use Rattle.export_json.proofs.ranking.write_ranking.Given as goal

-- what is written, and what is left, are the whole
abbrev pub invariant-loop-row : goal.invariant-loop-row
invariant-loop-row l =
    (l.out ++ all_tokens (ranked_value (ids_in l.tests)) (with_totals l.total (drop l.row-index l.rows)) ≡ l.initial.out ++ all_tokens (ranked_value (ids_in l.tests)) (with_totals 0 l.rows))
    × (l.total ≤ l.row-index * 2 ^ 64)
