use Rattle.std.proofs.Common.{refl}
use Rattle.cov_lexer.specs.declared.kind.Kind.TheVariants.{CloseSquare}
use Rattle.cov_grammar.proofs.Lawful.{lawful_word, lawful_maybe}
use Rattle.cov_grammar.proofs.Compose.{both_reads, both_fails, both_then_fails}
use Rattle.cov_grammar.proofs.Steps.{exits}
use Rattle.cov_grammar.specs.Bins.{repeated}
use Rattle.cov_grammar.specs.Expressions.{pair}
use Rattle.cov_grammar.proofs.Lawful.{lawful_one}
use Rattle.cov_grammar.proofs.Steps.{one_fails}
use Rattle.cov_grammar.proofs.ExprLaws.{expr_lawful}
use Rattle.item_parser.proofs.StepWalks.{ways, colon_lawful, two_numbers_lawful, times_lawful, no_repetition, repetition_part}
use Rattle.item_parser.proofs.steps.repetition.Goals as goal

pub returns-in_default : goal.returns-in_default
returns-in_default c = rw c.of.ensures (no_repetition c.args.reader.text.now c.args.reader.tokens.now c.in_default.ensures.none)

pub returns-in_default-take : goal.returns-in_default-take
returns-in_default-take c = (repetition_part c.args.reader.text.now c.args.reader.tokens.now (c.in-Some.ensures.some c.args.room)).fails (both_fails _ (times_lawful c.args.reader.text.now c.args.reader.tokens.now) (lawful_word c.args.reader.tokens.now CloseSquare) refl (both_fails _ (lawful_one c.args.reader.tokens.now (ways c.args.reader.text.now c.args.reader.tokens.now)) (two_numbers_lawful c.args.reader.text.now c.args.reader.tokens.now) refl (one_fails _ _ _ _ c.in_default-take.ensures.none)))

pub returns-in_err-low : goal.returns-in_err-low
returns-in_err-low c = exits _ _ _ _ _ c.from_residual.ensures.1 ((repetition_part c.args.reader.text.now c.args.reader.tokens.now (c.in-Some.ensures.some c.args.room)).fails (both_fails _ (times_lawful c.args.reader.text.now c.args.reader.tokens.now) (lawful_word c.args.reader.tokens.now CloseSquare) refl (both_then_fails _ (lawful_one c.args.reader.tokens.now (ways c.args.reader.text.now c.args.reader.tokens.now)) (two_numbers_lawful c.args.reader.text.now c.args.reader.tokens.now) refl (c.in-Some-take.ensures.some c.args.room) (both_fails _ (expr_lawful c.args.reader.text.now c.args.reader.tokens.now) (lawful_maybe (colon_lawful c.args.reader.text.now c.args.reader.tokens.now) refl) refl c.in_err-low.ensures))))

pub returns-in_err-second : goal.returns-in_err-second
returns-in_err-second c = exits _ _ _ _ _ c.from_residual-in_err-second.ensures.1 ((repetition_part c.args.reader.text.now c.args.reader.tokens.now (c.in-Some.ensures.some c.args.room)).fails (both_fails _ (times_lawful c.args.reader.text.now c.args.reader.tokens.now) (lawful_word c.args.reader.tokens.now CloseSquare) refl (both_then_fails _ (lawful_one c.args.reader.tokens.now (ways c.args.reader.text.now c.args.reader.tokens.now)) (two_numbers_lawful c.args.reader.text.now c.args.reader.tokens.now) refl (c.in-Some-take.ensures.some c.args.room) (both_then_fails _ (expr_lawful c.args.reader.text.now c.args.reader.tokens.now) (lawful_maybe (colon_lawful c.args.reader.text.now c.args.reader.tokens.now) refl) refl c.in_ok-low.ensures c.in_err-second.ensures))))

pub returns-in_err-after : goal.returns-in_err-after
returns-in_err-after c = exits _ _ _ _ _ c.from_residual-in_err-after.ensures.1 ((repetition_part c.args.reader.text.now c.args.reader.tokens.now (c.in-Some.ensures.some c.args.room)).fails (both_then_fails _ (times_lawful c.args.reader.text.now c.args.reader.tokens.now) (lawful_word c.args.reader.tokens.now CloseSquare) refl (both_reads repeated (lawful_one c.args.reader.tokens.now (ways c.args.reader.text.now c.args.reader.tokens.now)) (two_numbers_lawful c.args.reader.text.now c.args.reader.tokens.now) refl (c.in-Some-take.ensures.some c.args.room) (both_reads pair (expr_lawful c.args.reader.text.now c.args.reader.tokens.now) (lawful_maybe (colon_lawful c.args.reader.text.now c.args.reader.tokens.now) refl) refl c.in_ok-low.ensures c.in_ok-second.ensures)) (c.in_err-after.ensures _)))

pub returns : goal.returns
returns c = rw (c.of-2.ensures, c.in_ok-times.ensures) ((repetition_part c.args.reader.text.now c.args.reader.tokens.now (c.in-Some.ensures.some c.args.room)).reads (both_reads _ (times_lawful c.args.reader.text.now c.args.reader.tokens.now) (lawful_word c.args.reader.tokens.now CloseSquare) refl (both_reads repeated (lawful_one c.args.reader.tokens.now (ways c.args.reader.text.now c.args.reader.tokens.now)) (two_numbers_lawful c.args.reader.text.now c.args.reader.tokens.now) refl (c.in-Some-take.ensures.some c.args.room) (both_reads pair (expr_lawful c.args.reader.text.now c.args.reader.tokens.now) (lawful_maybe (colon_lawful c.args.reader.text.now c.args.reader.tokens.now) refl) refl c.in_ok-low.ensures c.in_ok-second.ensures)) (c.in_ok-after.ensures _)))
