use Rattle.std.proofs.Common.{◌∷◌, [], ◌++◌, subst, sym}
use Rattle.cov_base.specs.Sets.{written}
use Rattle.trans_found.specs.Held.{begun, begun_by, HasAll}
use Rattle.trans_found.proofs.HeldLemmas.{has-one}
use Rattle.trans_lists.proofs.widened.push_full.Goals as goal

pub returns-clause-full : goal.returns-clause-full
returns-clause-full c = λ lists before all is had.
    let items = c.args.items.now in
    let old = c.args.full.now.items in
    let last = c.args.last in
    let has : HasAll lists (begun (before ++ last ∷ []) items) = subst (λ f. HasAll lists (begun f items)) is (c.in_ok-is_full.ensures.full c.if-not-branch.false lists all) in
    subst (λ rs. HasAll lists (begun_by before (written rs) items)) (sym c.in_ok-push.ensures.items) (has-one lists before old last items had has)
