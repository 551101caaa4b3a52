use Rattle.cov_history.proofs.Ends.{legal_is_one}
use Rattle.cov_history.proofs.laws.legality_is_one.Goals as goal

pub returns : goal.returns
returns c = legal_is_one
