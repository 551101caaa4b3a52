use Rattle.std.proofs.Common.{subst, sym}
use Rattle.cov_base.specs.Sets.{written}
use Rattle.trans_found.specs.Held.{begun_by, HasAll}
use Rattle.trans_found.proofs.HeldLemmas.{on-ok}
use Rattle.trans_lists.proofs.widened.keep_wider.Goals as goal

pub returns-then-many-most : goal.returns-then-many-most
returns-then-many-most c =
    on-ok _ _ (λ h lists all had before sure full. h lists all had before) c.keep_more.result c.keep_more.ensures

pub returns : goal.returns
returns c =
    let first = c.args.first.now in
    let wider = c.args.wider.now in
    on-ok _ _ (λ h lists all had before sure full.
    h lists all
    (subst (λ r. HasAll lists (begun_by first (written wider.sure) r)) (sym c.as_slice-wide.ensures.value) sure)
    (subst (λ r. HasAll lists (begun_by first (written wider.full) r)) (sym c.as_slice-wide.ensures.value) full)) c.remember.result c.remember.ensures
