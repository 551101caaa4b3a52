use Rattle.elab_crosses.proofs.Owed.{cross_few}
use Rattle.elab_crosses.proofs.laws.bins_of_a_cross_are_few.Goals as goal

pub returns : goal.returns
returns c = cross_few
