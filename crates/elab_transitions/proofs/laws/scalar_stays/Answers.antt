use Rattle.elab_transitions.proofs.Scalars.{stays}
use Rattle.elab_transitions.proofs.laws.scalar_stays.Goals as goal

pub returns : goal.returns
returns c = stays
