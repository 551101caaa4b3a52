use Rattle.cov_grammar.proofs.Whole.{one_syntax_fault, one_too_deep, not_both_faults, fault_or_tree}
use Rattle.cov_grammar.proofs.laws.tokens_have_one_fault.Goals as goal

pub returns-clause-syntax : goal.returns-clause-syntax
returns-clause-syntax c = one_syntax_fault

pub returns-clause-depth : goal.returns-clause-depth
returns-clause-depth c = one_too_deep

pub returns-clause-one : goal.returns-clause-one
returns-clause-one c = not_both_faults

pub returns-clause-design : goal.returns-clause-design
returns-clause-design c = fault_or_tree
