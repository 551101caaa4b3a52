use Rattle.cov_grammar.proofs.Steps.{exits}
use Rattle.range_parser.proofs.SelWalks.{no_binsof, binsof_ends, binsof_meets, parens_unopened, parens_unnamed, parens_undotted, parens_close}
use Rattle.range_parser.proofs.selections.bins_of.Goals as goal

pub returns-in_err-binsof : goal.returns-in_err-binsof
returns-in_err-binsof c = exits _ _ _ _ _ c.from_residual.ensures.1 (no_binsof _ _ (c.in_err-binsof.ensures c.args.room))

pub returns-in_err-at : goal.returns-in_err-at
returns-in_err-at c = exits _ _ _ _ _ c.from_residual-in_err-at.ensures.1
    (binsof_ends _ _ (c.in_ok-binsof.ensures c.args.room) (parens_unopened _ _ (c.in_err-at.ensures c.args.room)))

pub returns-in_err-point : goal.returns-in_err-point
returns-in_err-point c = exits _ _ _ _ _ c.from_residual-in_err-point.ensures.1
    (binsof_ends _ _ (c.in_ok-binsof.ensures c.args.room) (parens_unnamed _ _ (c.in_ok-at.ensures c.args.room) (c.in_err-point.ensures c.args.room)))

pub returns-in_err-bin : goal.returns-in_err-bin
returns-in_err-bin c = exits _ _ _ _ _ c.from_residual-in_err-bin.ensures.1
    (binsof_ends _ _ (c.in_ok-binsof.ensures c.args.room) (parens_undotted _ _ (c.in_ok-at.ensures c.args.room) (c.in_ok-point.ensures c.args.room) c.in_err-bin.ensures))

pub returns-in_err-at-2 : goal.returns-in_err-at-2
returns-in_err-at-2 c = exits _ _ _ _ _ c.from_residual-in_err-at-2.ensures.1
    (binsof_ends _ _ (c.in_ok-binsof.ensures c.args.room)
    ((parens_close _ _ (c.in_ok-at.ensures c.args.room) (c.in_ok-point.ensures c.args.room) c.in_ok-bin.ensures).fails (c.in_err-at-2.ensures c.args.room)))

pub returns-in_err-meets : goal.returns-in_err-meets
returns-in_err-meets c = exits _ _ _ _ _ c.from_residual-in_err-meets.ensures.1
    ((binsof_meets _ _ (c.in_ok-binsof.ensures c.args.room)
    ((parens_close _ _ (c.in_ok-at.ensures c.args.room) (c.in_ok-point.ensures c.args.room) c.in_ok-bin.ensures).reads (c.in_ok-at-2.ensures c.args.room))).fails c.in_err-meets.ensures)

pub returns : goal.returns
returns c = rw c.bins_of_token.ensures (
    (binsof_meets _ _ (c.in_ok-binsof.ensures c.args.room)
    ((parens_close _ _ (c.in_ok-at.ensures c.args.room) (c.in_ok-point.ensures c.args.room) c.in_ok-bin.ensures).reads (c.in_ok-at-2.ensures c.args.room))).reads c.in_ok-meets.ensures)
