use Rattle.std.proofs.Common.{refl}
use Rattle.cov_lexer.specs.declared.kind.Kind.TheVariants.{OpenBrace, CloseBrace}
use Rattle.cov_grammar.proofs.Lawful.{lawful_word, lawful_maybe}
use Rattle.cov_grammar.proofs.Compose.{both_reads, both_fails, both_then_fails}
use Rattle.cov_grammar.proofs.Steps.{exits}
use Rattle.cov_grammar.proofs.BinsLaws.{ident_lawful, keep_lawful, elems_lawful}
use Rattle.cov_grammar.specs.declared.place.Standing.TheVariants.{Plain}
use Rattle.range_parser.proofs.ValueWalks.{named_leads, ranges_leads, keep_unread, keep_breaks, keep_reads, elems_close_lawful, braces_lawful}
use Rattle.range_parser.proofs.ranges.values.Goals as goal

pub returns-in_err-name : goal.returns-in_err-name
returns-in_err-name c = exits _ _ _ _ _ c.from_residual.ensures.1 ((named_leads c.args.reader.text.now c.args.reader.tokens.now c.in_default.ensures.none).fails (both_fails _ (ident_lawful c.args.reader.text.now c.args.reader.tokens.now) (keep_lawful c.args.reader.text.now c.args.reader.tokens.now) refl (c.in_err-name.ensures _)))

pub returns-in_err-at : goal.returns-in_err-at
returns-in_err-at c = exits _ _ _ _ _ c.from_residual-in_err-at.ensures.1 ((named_leads c.args.reader.text.now c.args.reader.tokens.now c.in_default.ensures.none).fails (both_then_fails _ (ident_lawful c.args.reader.text.now c.args.reader.tokens.now) (keep_lawful c.args.reader.text.now c.args.reader.tokens.now) refl (c.in_ok-name.ensures _) (keep_unread c.args.reader.text.now c.args.reader.tokens.now (c.in_err-at.ensures _))))

pub returns-in_err-keep : goal.returns-in_err-keep
returns-in_err-keep c = exits _ _ _ _ _ c.from_residual-in_err-keep.ensures.1 ((named_leads c.args.reader.text.now c.args.reader.tokens.now c.in_default.ensures.none).fails (both_then_fails _ (ident_lawful c.args.reader.text.now c.args.reader.tokens.now) (keep_lawful c.args.reader.text.now c.args.reader.tokens.now) refl (c.in_ok-name.ensures _) (keep_breaks c.args.reader.text.now c.args.reader.tokens.now (c.in_ok-at.ensures _) c.in_err-keep.ensures)))

pub returns-in_default : goal.returns-in_default
returns-in_default c = rw (c.of.ensures, c.put-keep.ensures) ((named_leads c.args.reader.text.now c.args.reader.tokens.now c.in_default.ensures.none).reads (both_reads _ (ident_lawful c.args.reader.text.now c.args.reader.tokens.now) (keep_lawful c.args.reader.text.now c.args.reader.tokens.now) refl (c.in_ok-name.ensures _) (keep_reads c.args.reader.text.now c.args.reader.tokens.now (c.in_ok-at.ensures _) c.in_ok-keep.ensures)))

pub returns-in_err-elems : goal.returns-in_err-elems
returns-in_err-elems c = exits _ _ _ _ _ c.from_residual-in_err-elems.ensures.1 ((ranges_leads c.args.reader.text.now c.args.reader.tokens.now c.in-Some.ensures.here).fails (both_fails _ (braces_lawful c.args.reader.text.now c.args.reader.tokens.now) (lawful_maybe (keep_lawful c.args.reader.text.now c.args.reader.tokens.now) refl) refl (both_then_fails _ (lawful_word c.args.reader.tokens.now OpenBrace) (elems_close_lawful c.args.reader.text.now c.args.reader.tokens.now) refl (c.in-Some.ensures.some _) (both_fails _ (elems_lawful c.args.reader.text.now c.args.reader.tokens.now Plain) (lawful_word c.args.reader.tokens.now CloseBrace) refl c.in_err-elems.ensures))))

pub returns-in_err-at-2 : goal.returns-in_err-at-2
returns-in_err-at-2 c = exits _ _ _ _ _ c.from_residual-in_err-at-2.ensures.1 ((ranges_leads c.args.reader.text.now c.args.reader.tokens.now c.in-Some.ensures.here).fails (both_fails _ (braces_lawful c.args.reader.text.now c.args.reader.tokens.now) (lawful_maybe (keep_lawful c.args.reader.text.now c.args.reader.tokens.now) refl) refl (both_then_fails _ (lawful_word c.args.reader.tokens.now OpenBrace) (elems_close_lawful c.args.reader.text.now c.args.reader.tokens.now) refl (c.in-Some.ensures.some _) (both_then_fails _ (elems_lawful c.args.reader.text.now c.args.reader.tokens.now Plain) (lawful_word c.args.reader.tokens.now CloseBrace) refl c.in_ok-elems.ensures (c.in_err-at-2.ensures _)))))

pub returns-in_err-keep-2 : goal.returns-in_err-keep-2
returns-in_err-keep-2 c = exits _ _ _ _ _ c.from_residual-in_err-keep-2.ensures.1 ((ranges_leads c.args.reader.text.now c.args.reader.tokens.now c.in-Some.ensures.here).fails (both_then_fails _ (braces_lawful c.args.reader.text.now c.args.reader.tokens.now) (lawful_maybe (keep_lawful c.args.reader.text.now c.args.reader.tokens.now) refl) refl (both_reads _ (lawful_word c.args.reader.tokens.now OpenBrace) (elems_close_lawful c.args.reader.text.now c.args.reader.tokens.now) refl (c.in-Some.ensures.some _) (both_reads _ (elems_lawful c.args.reader.text.now c.args.reader.tokens.now Plain) (lawful_word c.args.reader.tokens.now CloseBrace) refl c.in_ok-elems.ensures (c.in_ok-at-2.ensures _))) c.in_err-keep-2.ensures))

pub returns : goal.returns
returns c = rw (c.of-2.ensures, c.put-keep-2.ensures) ((ranges_leads c.args.reader.text.now c.args.reader.tokens.now c.in-Some.ensures.here).reads (both_reads _ (braces_lawful c.args.reader.text.now c.args.reader.tokens.now) (lawful_maybe (keep_lawful c.args.reader.text.now c.args.reader.tokens.now) refl) refl (both_reads _ (lawful_word c.args.reader.tokens.now OpenBrace) (elems_close_lawful c.args.reader.text.now c.args.reader.tokens.now) refl (c.in-Some.ensures.some _) (both_reads _ (elems_lawful c.args.reader.text.now c.args.reader.tokens.now Plain) (lawful_word c.args.reader.tokens.now CloseBrace) refl c.in_ok-elems.ensures (c.in_ok-at-2.ensures _))) c.in_ok-keep-2.ensures))
