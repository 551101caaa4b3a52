use Rattle.std.proofs.Common.{refl}
use Rattle.cov_lexer.specs.declared.kind.Kind.TheVariants.{Ident}
use Rattle.cov_grammar.proofs.Steps.{one_reads, one_here}
use Rattle.token_reader.proofs.reader.Reader.take.Goals as goal

pub returns-clause-some : goal.returns-clause-some
returns-clause-some c = λ r. one_reads c.args.self.tokens.now c.args.kinds.now r c.args.place _ record { kind = Ident; at = 0; len = 0 } (c.if-place-self.false) refl (let a = c.is_one_of.ensures in let b = c.if-not-is_one_of.false in cc)

pub returns-clause-here : goal.returns-clause-here
returns-clause-here c = one_here _ _ record { levels = 0; operators = 0 } c.args.place _ _ (returns-clause-some c record { levels = 0; operators = 0 })
