use Rattle.elab_crosses.proofs.Unpicked.{unpicked}
use Rattle.elab_crosses.proofs.laws.automatic_bins_are_unpicked.Goals as goal

pub returns : goal.returns
returns c = unpicked
