use Rattle.const_eval.proofs.Known.{known_value}
use Rattle.const_eval.proofs.laws.known_values_are_of_their_type.Goals as goal

pub returns : goal.returns
returns c = known_value
