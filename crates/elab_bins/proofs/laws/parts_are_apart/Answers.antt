use Rattle.elab_bins.proofs.Distinct.{parts_apart}
use Rattle.elab_bins.proofs.laws.parts_are_apart.Goals as goal

pub returns : goal.returns
returns c = parts_apart
