use Rattle.cov_history.proofs.Ends.{repeats}
use Rattle.cov_history.proofs.laws.repeats_are_here.Goals as goal

pub returns : goal.returns
returns c = repeats
