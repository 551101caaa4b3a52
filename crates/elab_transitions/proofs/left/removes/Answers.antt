use Rattle.elab_transitions.proofs.Words.{same_test}
use Rattle.elab_transitions.proofs.left.removes.Goals as goal

pub returns : goal.returns
returns c = same_test c.removes.result c.args.removing.now c.args.list.now c.removes.ensures
