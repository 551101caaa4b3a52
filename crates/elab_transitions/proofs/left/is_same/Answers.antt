use Rattle.elab_transitions.proofs.Same.{same_answer}
use Rattle.elab_transitions.proofs.left.is_same.Goals as goal

pub returns : goal.returns
returns c = same_answer c.is_same.result c.args.seq.now c.args.other.now c.is_same.ensures
