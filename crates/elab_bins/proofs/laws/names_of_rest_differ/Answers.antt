use Rattle.elab_bins.proofs.Named.{rests_named}
use Rattle.elab_bins.proofs.laws.names_of_rest_differ.Goals as goal

pub returns : goal.returns
returns c = rests_named
