use Rattle.grammar_laws.proofs.Meanings.{unary_known, binary_known, times_known, bins_word_known, width_known, edge_known}
use Rattle.grammar_laws.proofs.laws.kinds_have_meanings.Goals as goal

pub returns-clause-unary : goal.returns-clause-unary
returns-clause-unary c = unary_known

pub returns-clause-binary : goal.returns-clause-binary
returns-clause-binary c = binary_known

pub returns-clause-times : goal.returns-clause-times
returns-clause-times c = times_known

pub returns-clause-bins : goal.returns-clause-bins
returns-clause-bins c = bins_word_known

pub returns-clause-width : goal.returns-clause-width
returns-clause-width c = width_known

pub returns-clause-edge : goal.returns-clause-edge
returns-clause-edge c = edge_known
