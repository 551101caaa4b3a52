use Rattle.elab_bins.proofs.Tracked.{removal_keeps}
use Rattle.elab_bins.proofs.laws.removal_keeps_what_is_listed.Goals as goal

pub returns : goal.returns
returns c = removal_keeps
