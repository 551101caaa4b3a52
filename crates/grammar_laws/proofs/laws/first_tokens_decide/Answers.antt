use Rattle.std.proofs.Common.{inl, inr}
use Rattle.grammar_laws.proofs.Marks.{spelled_alike_viable, untold}
use Rattle.grammar_laws.proofs.laws.first_tokens_decide.Goals as goal

pub returns-clause-alone : goal.returns-clause-alone
returns-clause-alone c = λ first second before after room count a h. spelled_alike_viable room first second before after count a (inl (untold count first before h))

pub returns-clause-next : goal.returns-clause-next
returns-clause-next c = λ first second before after room count a h. spelled_alike_viable room first second before after count a (inr h)
