use Rattle.grammar_laws.proofs.Marks.{viable_leads_on}
use Rattle.grammar_laws.proofs.Faults.{leads_on_viable, fewer_viable}
use Rattle.grammar_laws.proofs.laws.text_leads_on.Goals as goal

pub returns-clause-more : goal.returns-clause-more
returns-clause-more c = λ text tokens room count. viable_leads_on room text tokens count

pub returns-clause-back : goal.returns-clause-back
returns-clause-back c = λ text tokens room count. leads_on_viable room text tokens count

pub returns-clause-fewer : goal.returns-clause-fewer
returns-clause-fewer c = λ text tokens room fewer count. fewer_viable room text tokens fewer count
