use Rattle.cov_lexer.proofs.Meanings.{based_means}
use Rattle.grammar_laws.specs.Tokens.{word_of}
use Rattle.grammar_laws.proofs.Spelled.{decimal_value, based_parts}
use Rattle.grammar_laws.proofs.laws.literals_mean_their_parts.Goals as goal

pub returns-clause-decimal : goal.returns-clause-decimal
returns-clause-decimal c = decimal_value

pub returns-clause-parts : goal.returns-clause-parts
returns-clause-parts c = based_parts

pub returns-clause-based : goal.returns-clause-based
returns-clause-based c = λ text token size signed base digits h. based_means (word_of text token) size signed base digits h
