use Rattle.elab_bins.proofs.Cuts.{automatic_cut}
use Rattle.elab_bins.proofs.laws.automatic_bins_cut_their_type.Goals as goal

pub returns : goal.returns
returns c = automatic_cut
