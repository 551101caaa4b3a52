use Rattle.std.proofs.Common.{Some, None, refl, []}
use Rattle.cov_parser.proofs.CovergroupWalks.{direction_read, no_direction}
use Rattle.cov_parser.proofs.groups.direction.Goals as goal

pub returns-in-Some : goal.returns-in-Some
returns-in-Some c = λ r. (Some c.in-Some.token, direction_read [] _ (c.in-Some.ensures.some r), c.is_one_of.ensures)

pub returns-in-None : goal.returns-in-None
returns-in-None c = λ r. (None, no_direction [] _ c.in-None.ensures.none, refl)
