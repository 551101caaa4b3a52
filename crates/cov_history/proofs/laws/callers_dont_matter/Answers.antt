use Rattle.cov_history.proofs.Callers.{callers_same}
use Rattle.cov_history.proofs.laws.callers_dont_matter.Goals as goal

pub returns : goal.returns
returns c = callers_same
