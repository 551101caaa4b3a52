use Rattle.cov_grammar.proofs.Steps.{exits, leads_parses}
use Rattle.cov_parser.proofs.CovergroupWalks.{no_function, no_sample, behind_sample}
use Rattle.cov_parser.proofs.groups.sample_function.Goals as goal

pub returns-in_err-named : goal.returns-in_err-named
returns-in_err-named c = exits _ _ _ _ _ c.from_residual.ensures.1 (no_function _ _ (c.in_err-named.ensures _))

pub returns-in_err-opened : goal.returns-in_err-opened
returns-in_err-opened c = exits _ _ _ _ _ c.from_residual-in_err-opened.ensures.1 (no_sample _ _ (c.in_ok-named.ensures _) (c.in_err-opened.ensures _))

pub returns : goal.returns
returns c = leads_parses c.argument_parens.result (behind_sample _ _ (c.in_ok-named.ensures _) (c.in_ok-opened.ensures _)) c.argument_parens.ensures
