use Rattle.bin_spec.proofs.Spreads.{parts_together}
use Rattle.elab_bins.proofs.laws.parts_are_the_listed_numbers.Goals as goal

pub returns : goal.returns
returns c = parts_together
