use Rattle.std.proofs.Common.{List, ◌++◌, refl, ap, ◌∙◌, arith}
use Rattle.ucis_model.specs.declared.answers.HistoryNode.{HistoryNode}
use Rattle.merge_store.specs.Stores.{entries_of}
use Rattle.store_views.proofs.Pages.{page_is, page_more, last_page}
use Rattle.store_views.proofs.tests.push_page.Goals as goal

pub returns-then-total-first-2 : goal.returns-then-total-first-2
returns-then-total-first-2 c =
    let h = entries_of c.args.store.now in
    let page = page_is h c.args.first c.in_ok-total.total c.in_ok-total.page c.in_ok-total.ensures in
    let le = c.if-total-first-2.true in
    last_page h c.args.first c.in_ok-total.total c.in_ok-total.page c.args.tests.now.items c.append.new.self.items page c.requires (c.in_ok-append.ensures.items ∙ ap (λ (rows : List HistoryNode). c.args.tests.now.items ++ rows) c.into_vec-rows.ensures) (omega (arith, le))

pub returns : goal.returns
returns c =
    let h = entries_of c.args.store.now in
    let page = page_is h c.args.first c.in_ok-total.total c.in_ok-total.page c.in_ok-total.ensures in
    let more = c.if-total-first-2.false in
    let total = page.total_is in
    (refl, omega (arith, more, total), page_more h c.args.first c.in_ok-total.total c.in_ok-total.page c.args.tests.now.items c.append.new.self.items page c.requires (c.in_ok-append.ensures.items ∙ ap (λ (rows : List HistoryNode). c.args.tests.now.items ++ rows) c.into_vec-rows.ensures))
