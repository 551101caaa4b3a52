use Rattle.elab_crosses.proofs.Owed.{cross_rules}
use Rattle.elab_crosses.proofs.laws.each_bin_has_something_left.Goals as goal

pub returns : goal.returns
returns c = cross_rules
