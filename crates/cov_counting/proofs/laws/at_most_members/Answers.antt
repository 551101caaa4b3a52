use Rattle.cov_counting.proofs.Hits.{members}
use Rattle.cov_counting.proofs.laws.at_most_members.Goals as goal

pub returns : goal.returns
returns c = members
