use Rattle.cov_history.proofs.Counting.{tally_is}
use Rattle.cov_history.proofs.laws.counts_are_the_tally.Goals as goal

pub returns : goal.returns
returns c = tally_is
