use Rattle.std.proofs.Common.{arith, subst, get_or}
use Rattle.std.proofs.lemmas.Slice.{first_rest}
use Rattle.trans_auto.specs.Layout.{ItemsLaid}
use Rattle.trans_auto.proofs.Slices.{others}
use Rattle.trans_auto.proofs.Walking.{no_cells, enter-nil, enter-cons}
use Rattle.trans_auto.proofs.steps.+items_enter.Goals as goal

pub returns-in-empty : goal.returns-in-empty
returns-in-empty t c = λ base items laid clear. enter-nil c.args.enter base c.args.old c.args.start items c.args.cells.now (omega arith) laid clear

pub returns-in-len1-up : goal.returns-in-len1-up
returns-in-len1-up t c = λ base items laid clear.
    let a = c.args in
    let cells = a.cells.now in
    let one = get_or cells 0 no_cells in
    enter-cons a.enter base a.old a.start c.with.result c.items_enter.result items one (others cells) c.leaves-next.result
    (subst (λ xs. ItemsLaid base items xs) (first_rest cells no_cells (omega arith)) laid) clear c.leaves-next.ensures c.with.ensures c.items_enter.ensures
