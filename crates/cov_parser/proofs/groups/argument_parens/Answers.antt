use Rattle.cov_grammar.proofs.Steps.{exits}
use Rattle.cov_parser.proofs.CovergroupWalks.{arguments_unopened, arguments_open, no_arguments, arguments_fail, arguments_close}
use Rattle.cov_parser.proofs.groups.argument_parens.Goals as goal

pub returns-in_err-next : goal.returns-in_err-next
returns-in_err-next c = exits _ _ _ _ _ c.from_residual.ensures.1 (arguments_unopened _ _ (c.in_err-next.ensures _))

pub returns-in-Some : goal.returns-in-Some
returns-in-Some c = rw c.new.ensures ((arguments_open _ _ (c.in_ok-next.ensures _)).reads (no_arguments _ _ c.in-Some.ensures.here (c.in-Some.ensures.some _)))

pub returns-in_err-args : goal.returns-in_err-args
returns-in_err-args c = exits _ _ _ _ _ c.from_residual-in_err-args.ensures.1 ((arguments_open _ _ (c.in_ok-next.ensures _)).fails (arguments_fail _ _ c.in_default.ensures.none c.in_err-args.ensures))

pub returns-in_err-after : goal.returns-in_err-after
returns-in_err-after c = exits _ _ _ _ _ c.from_residual-in_err-after.ensures.1 ((arguments_open _ _ (c.in_ok-next.ensures _)).fails ((arguments_close _ _ c.in_ok-args.ensures).fails (c.in_err-after.ensures _)))

pub returns : goal.returns
returns c = (arguments_open _ _ (c.in_ok-next.ensures _)).reads ((arguments_close _ _ c.in_ok-args.ensures).reads (c.in_ok-after.ensures _))
