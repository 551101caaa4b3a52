use Rattle.design_data.proofs.Alike.{seq_same}
use Rattle.design_data.proofs.left.is_same.Goals as goal

pub returns : goal.returns
returns c = seq_same c.args.first.now c.args.second.now c.is_same.result c.is_same.ensures
