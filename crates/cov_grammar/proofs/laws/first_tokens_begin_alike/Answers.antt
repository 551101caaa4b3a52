use Rattle.cov_grammar.proofs.Whole.{shorter_viable, none_viable, derived_viable}
use Rattle.cov_grammar.proofs.laws.first_tokens_begin_alike.Goals as goal

pub returns-clause-shorter : goal.returns-clause-shorter
returns-clause-shorter c = shorter_viable

pub returns-clause-none : goal.returns-clause-none
returns-clause-none c = none_viable

pub returns-clause-whole : goal.returns-clause-whole
returns-clause-whole c = derived_viable
