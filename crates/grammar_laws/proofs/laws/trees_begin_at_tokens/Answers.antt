use Rattle.grammar_laws.proofs.Starts.{expr_there, step_there, bins_there, item_there, formal_there, argument_there}
use Rattle.grammar_laws.proofs.laws.trees_begin_at_tokens.Goals as goal

pub returns-clause-expr : goal.returns-clause-expr
returns-clause-expr c = expr_there

pub returns-clause-step : goal.returns-clause-step
returns-clause-step c = step_there

pub returns-clause-bins : goal.returns-clause-bins
returns-clause-bins c = bins_there

pub returns-clause-item : goal.returns-clause-item
returns-clause-item c = item_there

pub returns-clause-formal : goal.returns-clause-formal
returns-clause-formal c = formal_there

pub returns-clause-argument : goal.returns-clause-argument
returns-clause-argument c = argument_there
