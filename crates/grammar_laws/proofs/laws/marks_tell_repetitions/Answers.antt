use Rattle.grammar_laws.proofs.Squares.{index_no_repetition, square_repetition, square_no_index, no_level_no_index}
use Rattle.grammar_laws.proofs.laws.marks_tell_repetitions.Goals as goal

pub returns-clause-index : goal.returns-clause-index
returns-clause-index c = index_no_repetition

pub returns-clause-other : goal.returns-clause-other
returns-clause-other c = square_repetition

pub returns-clause-no_index : goal.returns-clause-no_index
returns-clause-no_index c = square_no_index

pub returns-clause-no_level : goal.returns-clause-no_level
returns-clause-no_level c = no_level_no_index
