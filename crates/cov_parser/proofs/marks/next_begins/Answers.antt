use Rattle.std.proofs.Common.{◌∙◌}
use Rattle.cov_parser.proofs.Keeping.{first_begins, none_begins}
use Rattle.cov_parser.proofs.marks.next_begins.Goals as goal

pub returns-in-Some : goal.returns-in-Some
returns-in-Some c = λ text all. c.is_one_of.ensures ∙ first_begins text c.in-Some.token.now c.args.tokens.now c.in-Some.ensures.value all

pub returns-in-None : goal.returns-in-None
returns-in-None c = λ text all. none_begins text c.args.tokens.now c.in-None.ensures.value
