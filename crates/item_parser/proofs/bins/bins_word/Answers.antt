use Rattle.cov_grammar.proofs.Steps.{one_fails}
use Rattle.item_parser.proofs.BinsWalks.{bins_word_reads, bins_word_fails}
use Rattle.item_parser.proofs.bins.bins_word.Goals as goal

pub returns-in_default : goal.returns-in_default
returns-in_default c = λ r. bins_word_fails c.args.reader.text.now c.args.reader.tokens.now (one_fails _ _ r _ c.in_default.ensures.none)

pub returns : goal.returns
returns c = λ r. rw c.bins_word_of.ensures (bins_word_reads c.args.reader.text.now c.args.reader.tokens.now (c.in-Some.ensures.some r))
