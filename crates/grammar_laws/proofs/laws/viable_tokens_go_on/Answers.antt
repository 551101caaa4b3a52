use Rattle.grammar_laws.proofs.Viable.{viable_goes_on, goes_on_viable}
use Rattle.grammar_laws.proofs.laws.viable_tokens_go_on.Goals as goal

pub returns-clause-more : goal.returns-clause-more
returns-clause-more c = λ text tokens room count. viable_goes_on room text tokens count

pub returns-clause-back : goal.returns-clause-back
returns-clause-back c = λ text tokens room count. goes_on_viable room text tokens count
