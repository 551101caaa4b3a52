use Rattle.cov_history.proofs.Ends.{ended}
use Rattle.cov_history.proofs.laws.nothing_after_a_stop.Goals as goal

pub returns : goal.returns
returns c = ended
