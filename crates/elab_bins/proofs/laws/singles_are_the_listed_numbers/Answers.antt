use Rattle.elab_bins.proofs.Distinct.{singles_listed}
use Rattle.elab_bins.proofs.laws.singles_are_the_listed_numbers.Goals as goal

pub returns : goal.returns
returns c = singles_listed
