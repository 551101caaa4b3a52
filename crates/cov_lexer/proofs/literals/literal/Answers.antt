use Rattle.std.proofs.Common.{◌∙◌}
use Rattle.cov_lexer.proofs.Meanings.{decimal_means, based_means, found_is, none_means}
use Rattle.cov_lexer.proofs.literals.literal.Goals as goal

pub returns-clause-decimal : goal.returns-clause-decimal
returns-clause-decimal c = λ h. c.from_front.ensures ∙ decimal_means c.args.text.now h

pub returns-clause-based : goal.returns-clause-based
returns-clause-based c = λ size signed base digits h. c.from_front.ensures ∙ based_means c.args.text.now size signed base digits h

pub returns-clause-none : goal.returns-clause-none
returns-clause-none c = λ h. c.from_front.ensures ∙ none_means c.args.text.now h

pub returns-clause-found : goal.returns-clause-found
returns-clause-found c = λ whole i j s e. found_is whole c.args.text.now i j s e
