use Rattle.cov_grammar.proofs.Whole.{more_room_derives}
use Rattle.cov_grammar.proofs.laws.more_room_keeps_the_tree.Goals as goal

pub returns : goal.returns
returns c = λ text tokens decls less more h k d. more_room_derives text tokens less more h k decls d
