use Rattle.std.proofs.Common.{refl}
use Rattle.cov_lexer.specs.declared.kind.Kind.TheVariants.{Dot, Assign, Semi}
use Rattle.cov_grammar.proofs.Lawful.{lawful_word}
use Rattle.cov_grammar.proofs.Compose.{both_reads, both_fails, both_then_fails}
use Rattle.cov_grammar.proofs.Steps.{exits}
use Rattle.cov_grammar.proofs.Lawful.{lawful_one}
use Rattle.cov_grammar.proofs.Steps.{one_fails}
use Rattle.cov_grammar.proofs.BinsLaws.{ident_lawful, option_value_lawful}
use Rattle.item_parser.proofs.BinsWalks.{option_words, value_end_lawful, assigned_lawful, setting_lawful, dotted_lawful, optset_leads}
use Rattle.item_parser.proofs.options.option.Goals as goal

pub returns-in_default : goal.returns-in_default
returns-in_default c = (optset_leads c.args.reader.text.now c.args.reader.tokens.now c.args.room c.args.place).fails (both_fails _ (lawful_one c.args.reader.tokens.now (option_words c.args.reader.text.now c.args.reader.tokens.now)) (dotted_lawful c.args.reader.text.now c.args.reader.tokens.now) refl (one_fails _ _ _ _ c.in_default.ensures.none))

pub returns-in_err-at : goal.returns-in_err-at
returns-in_err-at c = exits _ _ _ _ _ c.from_residual.ensures.1 ((optset_leads c.args.reader.text.now c.args.reader.tokens.now c.args.room c.args.place).fails (both_then_fails _ (lawful_one c.args.reader.tokens.now (option_words c.args.reader.text.now c.args.reader.tokens.now)) (dotted_lawful c.args.reader.text.now c.args.reader.tokens.now) refl (c.in-Some.ensures.some c.args.room) (both_fails _ (lawful_word c.args.reader.tokens.now Dot) (setting_lawful c.args.reader.text.now c.args.reader.tokens.now) refl (c.in_err-at.ensures _))))

pub returns-in_err-name : goal.returns-in_err-name
returns-in_err-name c = exits _ _ _ _ _ c.from_residual-in_err-name.ensures.1 ((optset_leads c.args.reader.text.now c.args.reader.tokens.now c.args.room c.args.place).fails (both_then_fails _ (lawful_one c.args.reader.tokens.now (option_words c.args.reader.text.now c.args.reader.tokens.now)) (dotted_lawful c.args.reader.text.now c.args.reader.tokens.now) refl (c.in-Some.ensures.some c.args.room) (both_then_fails _ (lawful_word c.args.reader.tokens.now Dot) (setting_lawful c.args.reader.text.now c.args.reader.tokens.now) refl (c.in_ok-at.ensures _) (both_fails _ (ident_lawful c.args.reader.text.now c.args.reader.tokens.now) (assigned_lawful c.args.reader.text.now c.args.reader.tokens.now) refl (c.in_err-name.ensures _)))))

pub returns-in_err-at-2 : goal.returns-in_err-at-2
returns-in_err-at-2 c = exits _ _ _ _ _ c.from_residual-in_err-at-2.ensures.1 ((optset_leads c.args.reader.text.now c.args.reader.tokens.now c.args.room c.args.place).fails (both_then_fails _ (lawful_one c.args.reader.tokens.now (option_words c.args.reader.text.now c.args.reader.tokens.now)) (dotted_lawful c.args.reader.text.now c.args.reader.tokens.now) refl (c.in-Some.ensures.some c.args.room) (both_then_fails _ (lawful_word c.args.reader.tokens.now Dot) (setting_lawful c.args.reader.text.now c.args.reader.tokens.now) refl (c.in_ok-at.ensures _) (both_then_fails _ (ident_lawful c.args.reader.text.now c.args.reader.tokens.now) (assigned_lawful c.args.reader.text.now c.args.reader.tokens.now) refl (c.in_ok-name.ensures _) (both_fails _ (lawful_word c.args.reader.tokens.now Assign) (value_end_lawful c.args.reader.text.now c.args.reader.tokens.now) refl (c.in_err-at-2.ensures _))))))

pub returns-in_err-value : goal.returns-in_err-value
returns-in_err-value c = exits _ _ _ _ _ c.from_residual-in_err-value.ensures.1 ((optset_leads c.args.reader.text.now c.args.reader.tokens.now c.args.room c.args.place).fails (both_then_fails _ (lawful_one c.args.reader.tokens.now (option_words c.args.reader.text.now c.args.reader.tokens.now)) (dotted_lawful c.args.reader.text.now c.args.reader.tokens.now) refl (c.in-Some.ensures.some c.args.room) (both_then_fails _ (lawful_word c.args.reader.tokens.now Dot) (setting_lawful c.args.reader.text.now c.args.reader.tokens.now) refl (c.in_ok-at.ensures _) (both_then_fails _ (ident_lawful c.args.reader.text.now c.args.reader.tokens.now) (assigned_lawful c.args.reader.text.now c.args.reader.tokens.now) refl (c.in_ok-name.ensures _) (both_then_fails _ (lawful_word c.args.reader.tokens.now Assign) (value_end_lawful c.args.reader.text.now c.args.reader.tokens.now) refl (c.in_ok-at-2.ensures _) (both_fails _ (option_value_lawful c.args.reader.text.now c.args.reader.tokens.now) (lawful_word c.args.reader.tokens.now Semi) refl c.in_err-value.ensures))))))

pub returns-in_err-after : goal.returns-in_err-after
returns-in_err-after c = exits _ _ _ _ _ c.from_residual-in_err-after.ensures.1 ((optset_leads c.args.reader.text.now c.args.reader.tokens.now c.args.room c.args.place).fails (both_then_fails _ (lawful_one c.args.reader.tokens.now (option_words c.args.reader.text.now c.args.reader.tokens.now)) (dotted_lawful c.args.reader.text.now c.args.reader.tokens.now) refl (c.in-Some.ensures.some c.args.room) (both_then_fails _ (lawful_word c.args.reader.tokens.now Dot) (setting_lawful c.args.reader.text.now c.args.reader.tokens.now) refl (c.in_ok-at.ensures _) (both_then_fails _ (ident_lawful c.args.reader.text.now c.args.reader.tokens.now) (assigned_lawful c.args.reader.text.now c.args.reader.tokens.now) refl (c.in_ok-name.ensures _) (both_then_fails _ (lawful_word c.args.reader.tokens.now Assign) (value_end_lawful c.args.reader.text.now c.args.reader.tokens.now) refl (c.in_ok-at-2.ensures _) (both_then_fails _ (option_value_lawful c.args.reader.text.now c.args.reader.tokens.now) (lawful_word c.args.reader.tokens.now Semi) refl c.in_ok-value.ensures (c.in_err-after.ensures _)))))))

pub returns : goal.returns
returns c = rw (c.of.ensures, c.put.ensures, c.is_one_of.ensures) ((optset_leads c.args.reader.text.now c.args.reader.tokens.now c.args.room c.args.place).reads (both_reads _ (lawful_one c.args.reader.tokens.now (option_words c.args.reader.text.now c.args.reader.tokens.now)) (dotted_lawful c.args.reader.text.now c.args.reader.tokens.now) refl (c.in-Some.ensures.some c.args.room) (both_reads _ (lawful_word c.args.reader.tokens.now Dot) (setting_lawful c.args.reader.text.now c.args.reader.tokens.now) refl (c.in_ok-at.ensures _) (both_reads _ (ident_lawful c.args.reader.text.now c.args.reader.tokens.now) (assigned_lawful c.args.reader.text.now c.args.reader.tokens.now) refl (c.in_ok-name.ensures _) (both_reads _ (lawful_word c.args.reader.tokens.now Assign) (value_end_lawful c.args.reader.text.now c.args.reader.tokens.now) refl (c.in_ok-at-2.ensures _) (both_reads _ (option_value_lawful c.args.reader.text.now c.args.reader.tokens.now) (lawful_word c.args.reader.tokens.now Semi) refl c.in_ok-value.ensures (c.in_ok-after.ensures _)))))))
