use Rattle.std.proofs.Common.{Some, None, []}
use Rattle.cov_parser.proofs.CovergroupWalks.{input_read, no_input}
use Rattle.cov_parser.proofs.groups.behind_input.Goals as goal

pub returns-in-Some : goal.returns-in-Some
returns-in-Some c = λ r. (Some _, input_read [] _ (c.in-Some.ensures.some r))

pub returns-in-None : goal.returns-in-None
returns-in-None c = λ r. (None, no_input [] _ c.in-None.ensures.none)
