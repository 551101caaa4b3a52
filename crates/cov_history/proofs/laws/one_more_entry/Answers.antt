use Rattle.cov_history.proofs.Snoc.{one_more}
use Rattle.cov_history.proofs.laws.one_more_entry.Goals as goal

pub returns : goal.returns
returns c = one_more
