use Rattle.elab_transitions.proofs.Dropped.{dropped}
use Rattle.elab_transitions.proofs.laws.dropped_adds_nothing.Goals as goal

pub returns : goal.returns
returns c = dropped
