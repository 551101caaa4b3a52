use Rattle.cov_grammar.specs.Operators.{level_kinds}
use Rattle.expr_parser.proofs.Operating.{levels_operate}
use Rattle.expr_parser.proofs.operators.next_level.Goals as goal

pub returns-in_default-clause-none : goal.returns-in_default-clause-none
returns-in_default-clause-none c = λ l a b. c.in_default.ensures.none (level_kinds l) (levels_operate l)
