use Rattle.std.proofs.Common.{sym, subst}
use Rattle.trans_seq.specs.Windows.{is_known_in, AllOutside, IsOne}
use Rattle.trans_seq.specs.Reach.{Leads, IsPart}
use Rattle.trans_seq.proofs.Results.{if_ok}
use Rattle.trans_seq.proofs.ReachLemmas.{leads-then}
use Rattle.trans_seq.proofs.reach.once_more.Goals as goal

pub returns-in_ok-begun-clause-leads : goal.returns-in_ok-begun-clause-leads
returns-in_ok-begun-clause-leads c =
    let p = is_known_in c.args.set.now in
    let w = c.args.window.now in
    let cuts = c.args.cuts.now in
    let begun = c.as_slice.result.now in
    let first : Leads (AllOutside p) w cuts begun = subst (λ l. Leads (AllOutside p) w cuts l) (sym c.as_slice.ensures.value) c.in_ok-begun.ensures.leads in
    if_ok (λ next. Leads (IsOne p) w begun next.items) (λ next. Leads (IsPart p c.args.blocks) w cuts next.items)
    (λ next h. subst (λ b. Leads (IsPart p b) w cuts next.items) (sym c.if-blocks.true) (leads-then (AllOutside p) (IsOne p) w cuts begun next.items first h))
    c.one_inside.result c.one_inside.ensures.leads
