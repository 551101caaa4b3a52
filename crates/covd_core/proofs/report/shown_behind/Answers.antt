use Rattle.std.proofs.Common.{◌≡◌, ℕ, List, [], ◌++◌, ap, ◌∙◌, rules}
use Rattle.std.proofs.lemmas.Result.{IfOk-weaker}
use Rattle.merge_store.specs.Stores.{opening_of, entries_of}
use Rattle.store_views.specs.Views.{rows_at}
use Rattle.store_waivers.specs.Lines.{unwaived_line}
use Rattle.ucis_model.specs.declared.answers.CoverRow.{CoverRow}
use Rattle.covd_commands.specs.Options.{options_in}
use Rattle.covd_filling.specs.Steps.{filled_of}
use Rattle.covd_core.proofs.Behind.{behind_is}
use Rattle.covd_core.proofs.report.shown_behind.Goals as goal

pub returns-in-Ok : goal.returns-in-Ok
returns-in-Ok g c =
    let s = c.args.store in
    let t = c.waive.new.store in
    let empty : c.new-below.result.items ≡ [] = search rules in
    let below : c.append_unwaived.new.text.items ≡ unwaived_line (rows_at (opening_of s) (entries_of s) 0).millionths =
    c.in_ok-append_unwaived.ensures ∙ ap (λ (old : List ℕ). old ++ unwaived_line c.in_ok-row.row.millionths) empty ∙ ap (λ (row : CoverRow). unwaived_line row.millionths) c.in_ok-row.ensures in
    IfOk-weaker c.shown.result _ _ (λ a h.
    h ∙ behind_is (options_in c.args.showing.options) c.args.showing.form c.args.showing.source.now c.args.waivers.now (opening_of s) (opening_of t) (filled_of s c.args.left) (entries_of t)
    c.waive.new.text.items c.append_hits.new.text.items c.append_unwaived.new.text.items c.waive.ensures.opening c.in-Ok.ensures.waived c.in-Ok.ensures.told c.in_ok-append_hits-in-Ok.ensures below)
    c.shown.ensures
