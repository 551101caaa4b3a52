use Rattle.cov_counting.proofs.Bins.{one}
use Rattle.cov_counting.proofs.laws.tally_is_one.Goals as goal

pub returns : goal.returns
returns c = one
