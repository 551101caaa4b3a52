use Rattle.cov_grammar.proofs.Steps.{one_fails}
use Rattle.token_reader.proofs.reader.Reader.word.Goals as goal

pub returns-in-None : goal.returns-in-None
returns-in-None c = λ r. one_fails _ _ r _ c.in-None.ensures.none
