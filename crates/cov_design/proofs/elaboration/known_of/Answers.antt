use Rattle.cov_design.proofs.Invariant.{walked_known}
use Rattle.cov_design.proofs.elaboration.known_of.Goals as goal

pub returns-clause-known : goal.returns-clause-known
returns-clause-known c = walked_known c.args.text.now c.in_ok-known.known c.in_ok-known.ensures
