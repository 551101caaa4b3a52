use Rattle.grammar_laws.proofs.Faults.{fault_after, fault_last, fault_last_token, fault_next}
use Rattle.grammar_laws.proofs.laws.syntax_fault_is_first.Goals as goal

pub returns-clause-before : goal.returns-clause-before
returns-clause-before c = λ text tokens room place. fault_after room text tokens place

pub returns-clause-marked : goal.returns-clause-marked
returns-clause-marked c = λ text tokens room place. fault_last room text tokens place

pub returns-clause-token : goal.returns-clause-token
returns-clause-token c = λ text tokens room place. fault_last_token room text tokens place

pub returns-clause-next : goal.returns-clause-next
returns-clause-next c = λ text tokens room place. fault_next room text tokens place
