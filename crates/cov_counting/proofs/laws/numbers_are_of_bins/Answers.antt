use Rattle.cov_counting.proofs.Bins.{bin_of, bin_below}
use Rattle.cov_counting.proofs.laws.numbers_are_of_bins.Goals as goal

pub returns : goal.returns
returns c = record { has_bin = bin_of c.args.design.now; below = bin_below c.args.design.now }
