use Rattle.elab_transitions.proofs.Within.{has_seq}
use Rattle.elab_transitions.proofs.laws.left_has_seq.Goals as goal

pub returns : goal.returns
returns c = has_seq
