use Rattle.std.proofs.Common.{arith}
use Rattle.cov_design.proofs.elaboration.design_of.Goals as goal

pub number-requires-clause-few : goal.number-requires-clause-few
number-requires-clause-few c = c.requires.instance_count

pub number-requires-clause-bins : goal.number-requires-clause-bins
number-requires-clause-bins c =
    let bins = c.requires.bins in
    let few = c.requires.few_bins in
    omega (arith, bins, few)
