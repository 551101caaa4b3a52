use Rattle.elab_transitions.proofs.Within.{is_within_limits}
use Rattle.elab_transitions.proofs.laws.made_is_within.Goals as goal

pub returns : goal.returns
returns c = is_within_limits
