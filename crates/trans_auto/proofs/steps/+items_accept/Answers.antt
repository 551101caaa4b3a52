use Rattle.std.proofs.Common.{arith, subst, get_or}
use Rattle.std.proofs.lemmas.Slice.{first_rest}
use Rattle.trans_auto.specs.Layout.{ItemsLaid}
use Rattle.trans_auto.proofs.Slices.{others}
use Rattle.trans_auto.proofs.Walking.{no_cells, accept-nil, accept-cons}
use Rattle.trans_auto.proofs.steps.+items_accept.Goals as goal

pub returns-in-empty : goal.returns-in-empty
returns-in-empty t c = λ base items laid. accept-nil c.args.enter base c.args.mask items c.args.cells.now (omega arith) laid

pub returns-in-len1-up : goal.returns-in-len1-up
returns-in-len1-up t c = λ base items laid.
    let a = c.args in
    let cells = a.cells.now in
    let one = get_or cells 0 no_cells in
    accept-cons a.enter base a.mask items one (others cells) c.leaves.result c.items_accept.result
    (subst (λ xs. ItemsLaid base items xs) (first_rest cells no_cells (omega arith)) laid) c.leaves.ensures c.items_accept.ensures
