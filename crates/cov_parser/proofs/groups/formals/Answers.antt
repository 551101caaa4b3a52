use Rattle.cov_grammar.proofs.Steps.{exits}
use Rattle.cov_parser.proofs.CovergroupWalks.{no_formals, formals_open, no_list, list_fails, list_closes}
use Rattle.cov_parser.proofs.groups.formals.Goals as goal

pub returns-in_default : goal.returns-in_default
returns-in_default c = rw c.new.ensures (no_formals _ _ c.in_default.ensures.none)

pub returns-in-Some-take : goal.returns-in-Some-take
returns-in-Some-take c = rw c.new-in-Some-take.ensures ((formals_open _ _ (c.in-Some.ensures.some _)).reads (no_list _ _ c.in-Some-take.ensures.here (c.in-Some-take.ensures.some _)))

pub returns-in_err-formals : goal.returns-in_err-formals
returns-in_err-formals c = exits _ _ _ _ _ c.from_residual.ensures.1 ((formals_open _ _ (c.in-Some.ensures.some _)).fails (list_fails _ _ c.in_default-take.ensures.none c.in_err-formals.ensures))

pub returns-in_err-after : goal.returns-in_err-after
returns-in_err-after c = exits _ _ _ _ _ c.from_residual-in_err-after.ensures.1 ((formals_open _ _ (c.in-Some.ensures.some _)).fails ((list_closes _ _ c.in_ok-formals.ensures).fails (c.in_err-after.ensures _)))

pub returns : goal.returns
returns c = (formals_open _ _ (c.in-Some.ensures.some _)).reads ((list_closes _ _ c.in_ok-formals.ensures).reads (c.in_ok-after.ensures _))
