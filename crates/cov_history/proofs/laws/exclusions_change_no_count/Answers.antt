use Rattle.cov_history.proofs.Ends.{no_count}
use Rattle.cov_history.proofs.laws.exclusions_change_no_count.Goals as goal

pub returns : goal.returns
returns c = no_count
