use Rattle.cov_grammar.proofs.Steps.{exits}
use Rattle.range_parser.proofs.SelWalks.{no_dot, dotted}
use Rattle.range_parser.proofs.selections.maybe_bin.Goals as goal

pub returns-in_default : goal.returns-in_default
returns-in_default c = no_dot _ _ c.in_default.ensures.none

pub returns-in_err-bin : goal.returns-in_err-bin
returns-in_err-bin c =
    exits _ _ _ _ _ c.from_residual.ensures.1
    ((dotted _ _ (c.in-Some.ensures.some c.args.room)).fails (c.in_err-bin.ensures c.args.room))

pub returns : goal.returns
returns c = (dotted _ _ (c.in-Some.ensures.some c.args.room)).reads (c.in_ok-bin.ensures c.args.room)
