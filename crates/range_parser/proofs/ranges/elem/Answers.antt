use Rattle.std.proofs.Common.{refl}
use Rattle.cov_lexer.specs.declared.kind.Kind.TheVariants.{Colon, CloseSquare}
use Rattle.cov_grammar.proofs.Lawful.{lawful_word}
use Rattle.cov_grammar.proofs.Compose.{both_reads, both_fails, both_then_fails}
use Rattle.cov_grammar.proofs.Steps.{exits, step, ends}
use Rattle.cov_grammar.proofs.BinsLaws.{range_end_lawful}
use Rattle.range_parser.proofs.ValueWalks.{single_reads, single_fails, span_leads, second_lawful, two_ends_lawful}
use Rattle.range_parser.proofs.ranges.elem.Goals as goal

pub returns-in_err-one : goal.returns-in_err-one
returns-in_err-one c = exits _ _ _ _ _ c.from_residual.ensures.1 (single_fails c.args.reader.text.now c.args.reader.tokens.now c.args.standing c.in_default.ensures.none c.in_err-one.ensures)

pub returns-in_default : goal.returns-in_default
returns-in_default c = rw (c.of.ensures, c.put.ensures) (single_reads c.args.reader.text.now c.args.reader.tokens.now c.args.standing c.in_default.ensures.none c.in_ok-one.ensures)

pub returns-in_err-low : goal.returns-in_err-low
returns-in_err-low c = exits _ _ _ _ _ c.from_residual-in_err-low.ensures.1 ((ends _ (two_ends_lawful c.args.reader.text.now c.args.reader.tokens.now) (lawful_word c.args.reader.tokens.now CloseSquare) refl (span_leads c.args.reader.text.now c.args.reader.tokens.now c.args.standing (c.in-Some.ensures.some c.args.room) c.in-Some.ensures.here) (both_fails _ (range_end_lawful c.args.reader.text.now c.args.reader.tokens.now) (second_lawful c.args.reader.text.now c.args.reader.tokens.now) refl c.in_err-low.ensures)))

pub returns-in_err-at : goal.returns-in_err-at
returns-in_err-at c = exits _ _ _ _ _ c.from_residual-in_err-at.ensures.1 ((ends _ (two_ends_lawful c.args.reader.text.now c.args.reader.tokens.now) (lawful_word c.args.reader.tokens.now CloseSquare) refl (span_leads c.args.reader.text.now c.args.reader.tokens.now c.args.standing (c.in-Some.ensures.some c.args.room) c.in-Some.ensures.here) (both_then_fails _ (range_end_lawful c.args.reader.text.now c.args.reader.tokens.now) (second_lawful c.args.reader.text.now c.args.reader.tokens.now) refl c.in_ok-low.ensures (both_fails _ (lawful_word c.args.reader.tokens.now Colon) (range_end_lawful c.args.reader.text.now c.args.reader.tokens.now) refl (c.in_err-at.ensures _)))))

pub returns-in_err-high : goal.returns-in_err-high
returns-in_err-high c = exits _ _ _ _ _ c.from_residual-in_err-high.ensures.1 ((ends _ (two_ends_lawful c.args.reader.text.now c.args.reader.tokens.now) (lawful_word c.args.reader.tokens.now CloseSquare) refl (span_leads c.args.reader.text.now c.args.reader.tokens.now c.args.standing (c.in-Some.ensures.some c.args.room) c.in-Some.ensures.here) (both_then_fails _ (range_end_lawful c.args.reader.text.now c.args.reader.tokens.now) (second_lawful c.args.reader.text.now c.args.reader.tokens.now) refl c.in_ok-low.ensures (both_then_fails _ (lawful_word c.args.reader.tokens.now Colon) (range_end_lawful c.args.reader.text.now c.args.reader.tokens.now) refl (c.in_ok-at.ensures _) c.in_err-high.ensures))))

pub returns-in_err-after : goal.returns-in_err-after
returns-in_err-after c = exits _ _ _ _ _ c.from_residual-in_err-after.ensures.1 ((step _ (two_ends_lawful c.args.reader.text.now c.args.reader.tokens.now) (lawful_word c.args.reader.tokens.now CloseSquare) refl (span_leads c.args.reader.text.now c.args.reader.tokens.now c.args.standing (c.in-Some.ensures.some c.args.room) c.in-Some.ensures.here) (both_reads _ (range_end_lawful c.args.reader.text.now c.args.reader.tokens.now) (second_lawful c.args.reader.text.now c.args.reader.tokens.now) refl c.in_ok-low.ensures (both_reads _ (lawful_word c.args.reader.tokens.now Colon) (range_end_lawful c.args.reader.text.now c.args.reader.tokens.now) refl (c.in_ok-at.ensures _) c.in_ok-high.ensures))).fails (c.in_err-after.ensures _))

pub returns : goal.returns
returns c = rw (c.of-2.ensures, c.put-low.ensures, c.put-high.ensures) ((step _ (two_ends_lawful c.args.reader.text.now c.args.reader.tokens.now) (lawful_word c.args.reader.tokens.now CloseSquare) refl (span_leads c.args.reader.text.now c.args.reader.tokens.now c.args.standing (c.in-Some.ensures.some c.args.room) c.in-Some.ensures.here) (both_reads _ (range_end_lawful c.args.reader.text.now c.args.reader.tokens.now) (second_lawful c.args.reader.text.now c.args.reader.tokens.now) refl c.in_ok-low.ensures (both_reads _ (lawful_word c.args.reader.tokens.now Colon) (range_end_lawful c.args.reader.text.now c.args.reader.tokens.now) refl (c.in_ok-at.ensures _) c.in_ok-high.ensures))).reads (c.in_ok-after.ensures _))
