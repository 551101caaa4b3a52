use Rattle.elab_crosses.proofs.Owed.{cross_automatic}
use Rattle.elab_crosses.proofs.laws.bins_left_out_select_nothing_else.Goals as goal

pub returns : goal.returns
returns c = cross_automatic
