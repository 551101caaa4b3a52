use Rattle.grammar_laws.proofs.Spelled.{keyword_entry, operator_entry}
use Rattle.grammar_laws.proofs.laws.words_have_entries.Goals as goal

pub returns-clause-keyword : goal.returns-clause-keyword
returns-clause-keyword c = keyword_entry

pub returns-clause-operator : goal.returns-clause-operator
returns-clause-operator c = λ text tokens l place token is sort. (operator_entry text tokens l place token is sort).0

pub returns-clause-sort : goal.returns-clause-sort
returns-clause-sort c = λ text tokens l place token is sort. (operator_entry text tokens l place token is sort).1
