use Rattle.grammar_laws.proofs.Viable.{alike_viable}
use Rattle.grammar_laws.proofs.laws.kinds_and_spellings_decide.Goals as goal

pub returns : goal.returns
returns c = λ first second before after room count. alike_viable room count first before second after
