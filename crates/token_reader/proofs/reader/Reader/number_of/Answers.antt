use Rattle.std.proofs.Common.{◌∙◌, sym, ap}
use Rattle.cov_grammar.specs.Expressions.{literal_or}
use Rattle.cov_lexer.specs.Literals.{literal_of}
use Rattle.token_reader.proofs.reader.Reader.number_of.Goals as goal

pub returns-in-Some : goal.returns-in-Some
returns-in-Some c = ap literal_or (sym c.in-Some.is ∙ (c.literal.ensures.is ∙ ap literal_of c.spelled.ensures))

pub returns-in-None : goal.returns-in-None
returns-in-None c = ap literal_or (sym c.in-None.is ∙ (c.literal.ensures.is ∙ ap literal_of c.spelled.ensures))
