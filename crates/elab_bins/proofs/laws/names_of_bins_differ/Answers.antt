use Rattle.elab_bins.proofs.Named.{bins_named}
use Rattle.elab_bins.proofs.laws.names_of_bins_differ.Goals as goal

pub returns : goal.returns
returns c = bins_named
