use Rattle.std.proofs.Common.{codes, ap, ◌∙◌, ◌++◌, ℕ}
use Rattle.markup.specs.Trees.{Both, markup_text}
use Rattle.page_parts.specs.Pieces.{overall}
use Rattle.page_parts.proofs.Written.{two, section_written}
use Rattle.merge_store.specs.Stores.{opening_of, entries_of}
use Rattle.store_views.specs.Views.{rows_at}
use Rattle.ucis_model.specs.declared.answers.CoverRow.{CoverRow}
use Rattle.export_page.specs.Page.{verdict_figures, verdict_part}
use Rattle.export_page.proofs.verdict.append_verdict.Goals as goal

pub returns : goal.returns
unfolding verdict_part
returns c =
    let opening = opening_of c.args.store.now in
    let h = entries_of c.args.store.now in
    let inside = Both (overall (rows_at opening h 0).millionths) (verdict_figures opening h c.args.digest.now) in
    section_written c.args.text.now.items _ _ _ inside (codes "verdict") (codes "Verdict") c.in_ok-begin_section.ensures
    (two c.begin_section.new.text.items _ _ _ _
    (c.in_ok-overall.ensures ∙ ap (λ (row : CoverRow). c.begin_section.new.text.items ++ markup_text (overall row.millionths)) c.in_ok-row.ensures)
    c.in_ok-append_all_figures.ensures)
    c.in_ok-end_block.ensures
