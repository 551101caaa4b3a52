use Rattle.cov_grammar.proofs.Whole.{one_design}
use Rattle.cov_grammar.proofs.laws.tokens_have_one_tree.Goals as goal

pub returns : goal.returns
returns c = one_design
