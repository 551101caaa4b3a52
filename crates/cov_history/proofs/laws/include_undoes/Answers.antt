use Rattle.cov_history.proofs.Undoing.{include_undoes}
use Rattle.cov_history.proofs.laws.include_undoes.Goals as goal

pub returns : goal.returns
returns c = include_undoes
