use Rattle.elab_bins.proofs.Exact.{removal_exact}
use Rattle.elab_bins.proofs.laws.removal_is_exact.Goals as goal

pub returns : goal.returns
returns c = removal_exact
