use Rattle.std.proofs.Common.{sym, subst}
use Rattle.cov_base.specs.Sets.{written}
use Rattle.trans_found.specs.Held.{begun_by, HasAll}
use Rattle.trans_found.proofs.HeldLemmas.{has-both}
use Rattle.trans_lists.proofs.widened.widened.Goals as goal

pub returns-clause-sure : goal.returns-clause-sure
returns-clause-sure c = λ lists had kept.
    let first = c.args.first.now.items in
    let held = c.args.held.now in
    let wide = c.in_ok-wide.wide.items in
    let ours = c.in_ok-ours.ours in
    let theirs = c.in_ok-theirs.theirs in
    let from_ours : HasAll lists (begun_by first (written ours) wide) = subst (λ l. HasAll lists (begun_by first (written ours) l)) c.as_slice-2.ensures.value (c.in_ok-ours.ensures first lists had) in
    let behind : HasAll lists (begun_by first (written held.numbers) c.as_slice-3.result.now) = subst (λ l. HasAll lists (begun_by first (written held.numbers) l)) (sym c.as_slice-3.ensures) kept in
    let from_theirs : HasAll lists (begun_by first (written theirs) wide) = subst (λ l. HasAll lists (begun_by first (written theirs) l)) c.as_slice-4.ensures.value (c.in_ok-theirs.ensures first lists behind) in
    has-both lists first ours theirs c.in_ok-sure.sure wide c.in_ok-sure.ensures from_ours from_theirs
