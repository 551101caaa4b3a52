use Rattle.std.proofs.Common.{◌≡◌, ℕ, List, ◌++◌, length, vec_len, codes, ap, ◌∙◌, rules}
use Rattle.std.specs.Prelude.{filter, not}
use Rattle.markup.specs.Trees.{markup_text}
use Rattle.page_parts.specs.Pieces.{figure_ratio}
use Rattle.page_parts.proofs.Written.{two}
use Rattle.merge_store.specs.Stores.{opening_of, entries_of}
use Rattle.merge_store.specs.Now.{nodes_now, excluded_now}
use Rattle.cov_history.specs.Nodes.{children}
use Rattle.store_views.specs.Views.{rows_at}
use Rattle.ucis_model.specs.declared.answers.CoverRow.{CoverRow}
use Rattle.export_page.specs.Page.{coverage_figures}
use Rattle.export_page.specs.Views.{is_met}
use Rattle.export_page.proofs.verdict.append_coverage.Goals as goal

pub returns : goal.returns
unfolding coverage_figures
returns c =
    let opening = opening_of c.args.store.now in
    let h = entries_of c.args.store.now in
    let types = children (nodes_now c.args.store.now) 0 in
    let met_kept : vec_len c.in_ok-met.met ≡ length c.in_ok-met.met.items = search rules in
    let live_kept : vec_len c.in_ok-live.live ≡ length c.in_ok-live.live.items = search rules in
    let met : c.len.result ≡ length (filter (is_met (rows_at opening h)) types) =
    c.len.ensures ∙ met_kept ∙ ap length (c.in_ok-met.ensures ∙ ap (filter (is_met (rows_at opening h))) c.children-types.ensures.children) in
    let live : c.len-2.result ≡ length (filter (λ n. not (excluded_now c.args.store.now n)) types) =
    c.len-2.ensures ∙ live_kept ∙ ap length (c.in_ok-live.ensures ∙ ap (filter (λ (n : ℕ). not (excluded_now c.args.store.now n))) c.children-types.ensures.children) in
    two c.args.text.now.items _ _ _ _
    (c.in_ok-figure_ratio.ensures ∙ (λ i. c.args.text.now.items ++ markup_text (figure_ratio (codes "Types met") (met i) (live i))))
    (c.in_ok-figure_ratio-2.ensures ∙ ap (λ (row : CoverRow). c.figure_ratio.new.text.items ++ markup_text (figure_ratio (codes "Bins covered") row.covered row.bins)) c.in_ok-row.ensures)
