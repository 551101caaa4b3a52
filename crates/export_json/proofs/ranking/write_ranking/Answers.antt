use Rattle.std.proofs.Common.{List, ◌++◌, sym, ap, ◌∙◌, arith, append-nil}
use Rattle.std.proofs.lemmas.List.{drop_all}
use Rattle.tally.specs.declared.ranked.Ranked.{Ranked}
use Rattle.json_text.specs.Values.{all_tokens}
use Rattle.json_text.proofs.Parts.{array_whole}
use Rattle.export_json.specs.Export.{ids_in, with_totals, ranked_value, ranking_value}
use Rattle.export_json.proofs.ranking.write_ranking.Goals as goal

pub returns : goal.returns
unfolding ranking_value
returns c =
    let value = ranked_value (ids_in c.args.tests.now) in
    let end = c.loop-row-test.false in
    let written = c.loop-row.out in
    array_whole value (with_totals 0 c.args.rows.now) _ _ written _ c.in_ok-begin_array.ensures
    (sym (append-nil written) ∙ sym (ap (λ (rows : List Ranked). written ++ all_tokens value (with_totals c.loop-row.total rows)) (drop_all c.loop-row.row-index c.args.rows.now (omega (arith, end)))) ∙ c.loop-row.invariant.0)
    c.in_ok-end_array.ensures
