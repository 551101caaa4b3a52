use Rattle.std.proofs.Common.{refl}
use Rattle.cov_lexer.specs.declared.kind.Kind.TheVariants.{OpenParen, CloseParen}
use Rattle.cov_grammar.proofs.Lawful.{lawful_word}
use Rattle.cov_grammar.proofs.Compose.{both_reads, both_fails, both_then_fails}
use Rattle.cov_grammar.proofs.Steps.{exits}
use Rattle.cov_grammar.proofs.ExprLaws.{expr_lawful}
use Rattle.range_parser.proofs.ValueWalks.{close_lawful}
use Rattle.range_parser.proofs.ranges.in_parens.Goals as goal

pub returns-in_err-next : goal.returns-in_err-next
returns-in_err-next c = exits _ _ _ _ _ c.from_residual.ensures.1 ((both_fails _ (lawful_word c.args.reader.tokens.now OpenParen) (close_lawful c.args.reader.text.now c.args.reader.tokens.now) refl (c.in_err-next.ensures _)))

pub returns-in_err-inside : goal.returns-in_err-inside
returns-in_err-inside c = exits _ _ _ _ _ c.from_residual-in_err-inside.ensures.1 ((both_then_fails _ (lawful_word c.args.reader.tokens.now OpenParen) (close_lawful c.args.reader.text.now c.args.reader.tokens.now) refl (c.in_ok-next.ensures _) (both_fails _ (expr_lawful c.args.reader.text.now c.args.reader.tokens.now) (lawful_word c.args.reader.tokens.now CloseParen) refl c.in_err-inside.ensures)))

pub returns-in_err-after : goal.returns-in_err-after
returns-in_err-after c = exits _ _ _ _ _ c.from_residual-in_err-after.ensures.1 ((both_then_fails _ (lawful_word c.args.reader.tokens.now OpenParen) (close_lawful c.args.reader.text.now c.args.reader.tokens.now) refl (c.in_ok-next.ensures _) (both_then_fails _ (expr_lawful c.args.reader.text.now c.args.reader.tokens.now) (lawful_word c.args.reader.tokens.now CloseParen) refl c.in_ok-inside.ensures (c.in_err-after.ensures _))))

pub returns : goal.returns
returns c = (both_reads _ (lawful_word c.args.reader.tokens.now OpenParen) (close_lawful c.args.reader.text.now c.args.reader.tokens.now) refl (c.in_ok-next.ensures _) (both_reads _ (expr_lawful c.args.reader.text.now c.args.reader.tokens.now) (lawful_word c.args.reader.tokens.now CloseParen) refl c.in_ok-inside.ensures (c.in_ok-after.ensures _)))
