use Rattle.cov_grammar.proofs.Steps.{exits}
use Rattle.cov_parser.proofs.CovergroupWalks.{argument_untyped, argument_typed}
use Rattle.cov_parser.proofs.groups.argument.Goals as goal

pub returns-in_err-typ : goal.returns-in_err-typ
returns-in_err-typ c =
    let s = c.behind_input.ensures c.args.room in
    exits _ _ _ _ _ c.from_residual.ensures.1 (argument_untyped _ _ s.1 c.in_err-typ.ensures)

pub returns-in_err-name : goal.returns-in_err-name
returns-in_err-name c =
    let s = c.behind_input.ensures c.args.room in
    exits _ _ _ _ _ c.from_residual-in_err-name.ensures.1 ((argument_typed _ _ s.1 c.in_ok-typ.ensures).fails (c.in_err-name.ensures _))

pub returns : goal.returns
returns c = let s = c.behind_input.ensures c.args.room in
    rw (c.of.ensures, c.put.ensures, c.start_at-start.ensures) ((argument_typed _ _ s.1 c.in_ok-typ.ensures).reads (c.in_ok-name.ensures _))
