use Rattle.elab_transitions.proofs.Words.{some_decides}
use Rattle.elab_transitions.proofs.laws.tests_lists.Goals as goal

pub returns : goal.returns
returns c = λ seqs list. some_decides seqs list
