use Rattle.cov_history.proofs.Rising.{is_within}
use Rattle.cov_history.proofs.laws.coverage_is_within.Goals as goal

pub returns : goal.returns
returns c = is_within
