use Rattle.std.proofs.Common.{refl}
use Rattle.cov_lexer.specs.declared.kind.Kind.TheVariants.{OpenParen, CloseParen}
use Rattle.cov_grammar.proofs.Lawful.{lawful_word}
use Rattle.cov_grammar.proofs.Compose.{both_reads, both_fails, both_then_fails}
use Rattle.cov_grammar.proofs.Steps.{exits}
use Rattle.item_parser.proofs.StepWalks.{seq_leads, steps_lawful, steps_close_lawful}
use Rattle.item_parser.proofs.steps.sequence.Goals as goal

pub returns-in_err-next : goal.returns-in_err-next
returns-in_err-next c = exits _ _ _ _ _ c.from_residual.ensures.1 ((seq_leads c.args.reader.text.now c.args.reader.tokens.now c.args.room c.args.place).fails (both_fails _ (lawful_word c.args.reader.tokens.now OpenParen) (steps_close_lawful c.args.reader.text.now c.args.reader.tokens.now) refl (c.in_err-next.ensures _)))

pub returns-in_err-steps : goal.returns-in_err-steps
returns-in_err-steps c = exits _ _ _ _ _ c.from_residual-in_err-steps.ensures.1 ((seq_leads c.args.reader.text.now c.args.reader.tokens.now c.args.room c.args.place).fails (both_then_fails _ (lawful_word c.args.reader.tokens.now OpenParen) (steps_close_lawful c.args.reader.text.now c.args.reader.tokens.now) refl (c.in_ok-next.ensures _) (both_fails _ (steps_lawful c.args.reader.text.now c.args.reader.tokens.now) (lawful_word c.args.reader.tokens.now CloseParen) refl c.in_err-steps.ensures)))

pub returns-in_err-after : goal.returns-in_err-after
returns-in_err-after c = exits _ _ _ _ _ c.from_residual-in_err-after.ensures.1 ((seq_leads c.args.reader.text.now c.args.reader.tokens.now c.args.room c.args.place).fails (both_then_fails _ (lawful_word c.args.reader.tokens.now OpenParen) (steps_close_lawful c.args.reader.text.now c.args.reader.tokens.now) refl (c.in_ok-next.ensures _) (both_then_fails _ (steps_lawful c.args.reader.text.now c.args.reader.tokens.now) (lawful_word c.args.reader.tokens.now CloseParen) refl c.in_ok-steps.ensures (c.in_err-after.ensures _))))

pub returns : goal.returns
returns c = rw c.of.ensures ((seq_leads c.args.reader.text.now c.args.reader.tokens.now c.args.room c.args.place).reads (both_reads _ (lawful_word c.args.reader.tokens.now OpenParen) (steps_close_lawful c.args.reader.text.now c.args.reader.tokens.now) refl (c.in_ok-next.ensures _) (both_reads _ (steps_lawful c.args.reader.text.now c.args.reader.tokens.now) (lawful_word c.args.reader.tokens.now CloseParen) refl c.in_ok-steps.ensures (c.in_ok-after.ensures _))))
