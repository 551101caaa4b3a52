use Rattle.cov_history.proofs.Made.{made_where}
use Rattle.cov_history.proofs.laws.made_where_it_may_follow.Goals as goal

pub returns : goal.returns
returns c = made_where
