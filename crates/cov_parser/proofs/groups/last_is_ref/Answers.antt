use Rattle.std.proofs.Common.{◌∙◌, ap}
use Rattle.cov_parser.proofs.CovergroupWalks.{is_ref, last_stands}
use Rattle.cov_parser.proofs.groups.last_is_ref.Goals as goal

pub returns-in-Some : goal.returns-in-Some
returns-in-Some c = ap is_ref c.in-Some.ensures.value ∙ last_stands c.args.formals.now

pub returns-in-None : goal.returns-in-None
returns-in-None c = ap is_ref c.in-None.ensures.value ∙ last_stands c.args.formals.now
