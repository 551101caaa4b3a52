use Rattle.cov_history.proofs.Made.{stays_legal}
use Rattle.cov_history.proofs.laws.stays_legal.Goals as goal

pub returns : goal.returns
returns c = stays_legal
