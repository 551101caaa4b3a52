use Rattle.elab_transitions.proofs.Arrays.{array_is}
use Rattle.elab_transitions.proofs.laws.array_is_its_lists.Goals as goal

pub returns : goal.returns
returns c = array_is
