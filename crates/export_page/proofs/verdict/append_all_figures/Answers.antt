use Rattle.std.proofs.Common.{ℕ, List, ◌++◌, codes, ap, ◌∙◌}
use Rattle.markup.specs.Trees.{Both, markup_text}
use Rattle.page_parts.proofs.Written.{three, block_written}
use Rattle.merge_store.specs.Stores.{opening_of, entries_of}
use Rattle.ucis_model.specs.declared.answers.HistoryNode.{HistoryNode}
use Rattle.export_json.specs.Export.{test_rows}
use Rattle.export_page.specs.Page.{coverage_figures, test_figures, history_figures, verdict_figures}
use Rattle.export_page.proofs.verdict.append_all_figures.Goals as goal

pub returns : goal.returns
unfolding verdict_figures
returns c =
    let opening = opening_of c.args.store.now in
    let h = entries_of c.args.store.now in
    let inside = Both (coverage_figures opening h) (Both (test_figures (test_rows h)) (history_figures opening h c.args.digest.now)) in
    block_written c.args.text.now.items _ _ _ inside (codes "dl") c.in_ok-begin_block.ensures
    (three c.begin_block.new.text.items _ _ _ _ _ _ c.in_ok-append_coverage.ensures
    (c.in_ok-append_figures.ensures ∙ ap (λ (tests : List HistoryNode). c.append_coverage.new.text.items ++ markup_text (test_figures tests)) c.requires)
    c.in_ok-append_history.ensures)
    c.in_ok-end_block.ensures
