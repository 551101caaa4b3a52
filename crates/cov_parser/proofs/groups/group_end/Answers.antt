use Rattle.cov_grammar.proofs.Steps.{exits}
use Rattle.cov_parser.proofs.CovergroupWalks.{no_end, unnamed_end, named_end}
use Rattle.cov_parser.proofs.groups.group_end.Goals as goal

pub returns-in_err-at : goal.returns-in_err-at
returns-in_err-at c = λ r. exits _ r _ _ _ c.from_residual.ensures.1 (no_end _ _ _ (c.in_err-at.ensures r))

pub returns-in_default : goal.returns-in_default
returns-in_default c = λ r. unnamed_end _ _ _ (c.in_ok-at.ensures r) c.in_default.ensures.none

pub returns-in_err-label : goal.returns-in_err-label
returns-in_err-label c = λ r. exits _ r _ _ _ c.from_residual-in_err-label.ensures.1 ((named_end _ _ _ c.spelled.ensures (c.in_ok-at.ensures r) (c.in-Some.ensures.some r)).fails (c.in_err-label.ensures r))

pub returns : goal.returns
returns c = λ r. (named_end _ _ _ c.spelled.ensures (c.in_ok-at.ensures r) (c.in-Some.ensures.some r)).reads (c.in_ok-label.ensures r)
