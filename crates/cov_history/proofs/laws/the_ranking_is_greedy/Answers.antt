use Rattle.cov_history.proofs.Rankings.{ranking_is}
use Rattle.cov_history.proofs.laws.the_ranking_is_greedy.Goals as goal

pub returns : goal.returns
returns c = ranking_is
