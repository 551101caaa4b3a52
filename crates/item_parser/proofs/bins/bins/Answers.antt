use Rattle.std.proofs.Common.{refl}
use Rattle.cov_lexer.specs.declared.kind.Kind.TheVariants.{Assign, Semi}
use Rattle.cov_grammar.proofs.Lawful.{lawful_word, lawful_maybe}
use Rattle.cov_grammar.proofs.Compose.{both_reads, both_fails, both_then_fails}
use Rattle.cov_grammar.proofs.Steps.{exits}
use Rattle.cov_grammar.proofs.BinsLaws.{guard_lawful, right_lawful}
use Rattle.item_parser.proofs.BinsWalks.{right_reads_by, right_fails_by, bins_unread, bins_breaks, bins_leads, answer_lawful, guard_end_lawful}
use Rattle.item_parser.proofs.bins.bins.Goals as goal

pub returns-in_err-head : goal.returns-in_err-head
returns-in_err-head c = exits _ _ _ _ _ c.from_residual.ensures.1 (bins_unread c.args.reader.text.now c.args.reader.tokens.now (c.in_err-head.ensures.fails _))

pub returns-in_err-size : goal.returns-in_err-size
returns-in_err-size c = exits _ _ _ _ _ c.from_residual-in_err-size.ensures.1 (bins_breaks c.args.reader.text.now c.args.reader.tokens.now (c.in_ok-head.ensures.read _) c.in_err-size.ensures)

pub returns-in_err-at : goal.returns-in_err-at
returns-in_err-at c = exits _ _ _ _ _ c.from_residual-in_err-at.ensures.1 ((bins_leads c.args.reader.text.now c.args.reader.tokens.now (record { wildcard = c.in_ok-head.head.wildcard; kind = c.in_ok-head.head.word; name = c.in_ok-head.head.name; start = c.in_ok-head.head.start }) c.in_ok-size.size (c.in_ok-head.ensures.read _) c.in_ok-size.ensures).fails (both_fails _ (answer_lawful c.args.reader.text.now c.args.reader.tokens.now ((record { wildcard = c.in_ok-head.head.wildcard; kind = c.in_ok-head.head.word; name = c.in_ok-head.head.name; start = c.in_ok-head.head.start }), c.in_ok-size.size)) (guard_end_lawful c.args.reader.text.now c.args.reader.tokens.now) refl (both_fails _ (lawful_word c.args.reader.tokens.now Assign) (right_lawful c.args.reader.text.now c.args.reader.tokens.now c.in_ok-head.head.wildcard c.in_ok-size.size) refl (c.in_err-at.ensures _))))

pub returns-in_err-right : goal.returns-in_err-right
returns-in_err-right c = exits _ _ _ _ _ c.from_residual-in_err-right.ensures.1 ((bins_leads c.args.reader.text.now c.args.reader.tokens.now (record { wildcard = c.in_ok-head.head.wildcard; kind = c.in_ok-head.head.word; name = c.in_ok-head.head.name; start = c.in_ok-head.head.start }) c.in_ok-size.size (c.in_ok-head.ensures.read _) c.in_ok-size.ensures).fails (both_fails _ (answer_lawful c.args.reader.text.now c.args.reader.tokens.now ((record { wildcard = c.in_ok-head.head.wildcard; kind = c.in_ok-head.head.word; name = c.in_ok-head.head.name; start = c.in_ok-head.head.start }), c.in_ok-size.size)) (guard_end_lawful c.args.reader.text.now c.args.reader.tokens.now) refl (both_then_fails _ (lawful_word c.args.reader.tokens.now Assign) (right_lawful c.args.reader.text.now c.args.reader.tokens.now c.in_ok-head.head.wildcard c.in_ok-size.size) refl (c.in_ok-at.ensures _) (right_fails_by c.args.reader.text.now c.args.reader.tokens.now _ c.get.ensures c.in_err-right.ensures))))

pub returns-in_err-guard : goal.returns-in_err-guard
returns-in_err-guard c = exits _ _ _ _ _ c.from_residual-in_err-guard.ensures.1 ((bins_leads c.args.reader.text.now c.args.reader.tokens.now (record { wildcard = c.in_ok-head.head.wildcard; kind = c.in_ok-head.head.word; name = c.in_ok-head.head.name; start = c.in_ok-head.head.start }) c.in_ok-size.size (c.in_ok-head.ensures.read _) c.in_ok-size.ensures).fails (both_then_fails _ (answer_lawful c.args.reader.text.now c.args.reader.tokens.now ((record { wildcard = c.in_ok-head.head.wildcard; kind = c.in_ok-head.head.word; name = c.in_ok-head.head.name; start = c.in_ok-head.head.start }), c.in_ok-size.size)) (guard_end_lawful c.args.reader.text.now c.args.reader.tokens.now) refl (both_reads _ (lawful_word c.args.reader.tokens.now Assign) (right_lawful c.args.reader.text.now c.args.reader.tokens.now c.in_ok-head.head.wildcard c.in_ok-size.size) refl (c.in_ok-at.ensures _) (right_reads_by c.args.reader.text.now c.args.reader.tokens.now _ c.get.ensures c.in_ok-right.ensures)) (both_fails _ (lawful_maybe (guard_lawful c.args.reader.text.now c.args.reader.tokens.now) refl) (lawful_word c.args.reader.tokens.now Semi) refl c.in_err-guard.ensures)))

pub returns-in_err-after : goal.returns-in_err-after
returns-in_err-after c = exits _ _ _ _ _ c.from_residual-in_err-after.ensures.1 ((bins_leads c.args.reader.text.now c.args.reader.tokens.now (record { wildcard = c.in_ok-head.head.wildcard; kind = c.in_ok-head.head.word; name = c.in_ok-head.head.name; start = c.in_ok-head.head.start }) c.in_ok-size.size (c.in_ok-head.ensures.read _) c.in_ok-size.ensures).fails (both_then_fails _ (answer_lawful c.args.reader.text.now c.args.reader.tokens.now ((record { wildcard = c.in_ok-head.head.wildcard; kind = c.in_ok-head.head.word; name = c.in_ok-head.head.name; start = c.in_ok-head.head.start }), c.in_ok-size.size)) (guard_end_lawful c.args.reader.text.now c.args.reader.tokens.now) refl (both_reads _ (lawful_word c.args.reader.tokens.now Assign) (right_lawful c.args.reader.text.now c.args.reader.tokens.now c.in_ok-head.head.wildcard c.in_ok-size.size) refl (c.in_ok-at.ensures _) (right_reads_by c.args.reader.text.now c.args.reader.tokens.now _ c.get.ensures c.in_ok-right.ensures)) (both_then_fails _ (lawful_maybe (guard_lawful c.args.reader.text.now c.args.reader.tokens.now) refl) (lawful_word c.args.reader.tokens.now Semi) refl c.in_ok-guard.ensures (c.in_err-after.ensures _))))

pub returns : goal.returns
returns c = rw (c.of.ensures, c.put.ensures, c.put-2.ensures, c.put-3.ensures) ((bins_leads c.args.reader.text.now c.args.reader.tokens.now (record { wildcard = c.in_ok-head.head.wildcard; kind = c.in_ok-head.head.word; name = c.in_ok-head.head.name; start = c.in_ok-head.head.start }) c.in_ok-size.size (c.in_ok-head.ensures.read _) c.in_ok-size.ensures).reads (both_reads _ (answer_lawful c.args.reader.text.now c.args.reader.tokens.now ((record { wildcard = c.in_ok-head.head.wildcard; kind = c.in_ok-head.head.word; name = c.in_ok-head.head.name; start = c.in_ok-head.head.start }), c.in_ok-size.size)) (guard_end_lawful c.args.reader.text.now c.args.reader.tokens.now) refl (both_reads _ (lawful_word c.args.reader.tokens.now Assign) (right_lawful c.args.reader.text.now c.args.reader.tokens.now c.in_ok-head.head.wildcard c.in_ok-size.size) refl (c.in_ok-at.ensures _) (right_reads_by c.args.reader.text.now c.args.reader.tokens.now _ c.get.ensures c.in_ok-right.ensures)) (both_reads _ (lawful_maybe (guard_lawful c.args.reader.text.now c.args.reader.tokens.now) refl) (lawful_word c.args.reader.tokens.now Semi) refl c.in_ok-guard.ensures (c.in_ok-after.ensures _))))
