use Rattle.std.proofs.Common.{subst, sym, true}
use Rattle.trans_seq.specs.declared.seq.Repeat.TheVariants.{NonConsec}
use Rattle.trans_seq.specs.Windows.{is_known_in, AllOutside, InItem, InRepeat}
use Rattle.trans_seq.specs.Reach.{Leads, IsRepeated}
use Rattle.trans_seq.proofs.Results.{if_ok}
use Rattle.trans_seq.proofs.ReachLemmas.{leads-then}
use Rattle.trans_seq.proofs.reach.after_item.Goals as goal

pub returns-in-Goto-clause-leads : goal.returns-in-Goto-clause-leads
returns-in-Goto-clause-leads c =
    let p = is_known_in c.args.item.now.set in
    let w = c.args.window.now in
    let cuts = c.args.cuts.now in
    if_ok (λ next. Leads (IsRepeated p true c.in-Goto.low c.in-Goto.high) w cuts next.items) (λ next. Leads (InItem c.args.item.now c.args.last) w cuts next.items)
    (λ next h. subst (λ r. Leads (InRepeat p r c.args.last) w cuts next.items) (sym c.in-Goto.is) h)
    c.repeated-in-Goto.result c.repeated-in-Goto.ensures.leads

pub returns-else-last-clause-leads : goal.returns-else-last-clause-leads
returns-else-last-clause-leads c =
    let p = is_known_in c.args.item.now.set in
    let w = c.args.window.now in
    let cuts = c.args.cuts.now in
    let low = c.in-NonConsec.low in
    let high = c.in-NonConsec.high in
    let at = c.as_slice.result.now in
    let first : Leads (IsRepeated p true low high) w cuts at = subst (λ l. Leads (IsRepeated p true low high) w cuts l) (sym c.as_slice.ensures.value) c.in_ok-at-in-NonConsec.ensures.leads in
    if_ok (λ next. Leads (AllOutside p) w at next.items) (λ next. Leads (InItem c.args.item.now c.args.last) w cuts next.items)
    (λ next h. subst (λ r. Leads (InRepeat p r c.args.last) w cuts next.items) (sym c.in-NonConsec.is)
    (subst (λ l. Leads (InRepeat p (NonConsec low high) l) w cuts next.items) (sym c.if-last.false) (leads-then (IsRepeated p true low high) (AllOutside p) w cuts at next.items first h)))
    c.any_outside.result c.any_outside.ensures.leads
