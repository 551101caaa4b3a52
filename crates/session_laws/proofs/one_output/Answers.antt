use Rattle.session_laws.proofs.OneOutput.{one_output}
use Rattle.session_laws.proofs.one_output.Goals as goal

pub returns : goal.returns
returns c = one_output
