use Rattle.cov_grammar.proofs.Steps.{exits}
use Rattle.range_parser.proofs.SelWalks.{no_meets, met_opens, met_unopened, met_fails, met_closes}
use Rattle.range_parser.proofs.selections.maybe_meets.Goals as goal

pub returns-in_default : goal.returns-in_default
returns-in_default c = no_meets _ _ c.in_default.ensures.none

pub returns-in_err-at : goal.returns-in_err-at
returns-in_err-at c =
    exits _ _ _ _ _ c.from_residual.ensures.1
    (met_unopened _ _ (c.in-Some.ensures.some c.args.room) (c.in_err-at.ensures c.args.room))

pub returns-in_err-meets : goal.returns-in_err-meets
returns-in_err-meets c =
    exits _ _ _ _ _ c.from_residual-in_err-meets.ensures.1
    (met_fails _ _ (met_opens _ _ (c.in-Some.ensures.some c.args.room) (c.in_ok-at.ensures c.args.room)) c.in_err-meets.ensures)

pub returns-in_err-after : goal.returns-in_err-after
returns-in_err-after c =
    exits _ _ _ _ _ c.from_residual-in_err-after.ensures.1
    ((met_closes _ _ (met_opens _ _ (c.in-Some.ensures.some c.args.room) (c.in_ok-at.ensures c.args.room)) c.in_ok-meets.ensures).fails (c.in_err-after.ensures c.args.room))

pub returns : goal.returns
returns c =
    (met_closes _ _ (met_opens _ _ (c.in-Some.ensures.some c.args.room) (c.in_ok-at.ensures c.args.room)) c.in_ok-meets.ensures).reads (c.in_ok-after.ensures c.args.room)
