use Rattle.token_reader.proofs.Walks.{exits_if}
use Rattle.item_parser.proofs.BinsWalks.{head_unread, head_breaks, head_reads}
use Rattle.item_parser.proofs.bins.bins_head.Goals as goal

pub returns-in_err-word-clause-fails : goal.returns-in_err-word-clause-fails
returns-in_err-word-clause-fails c = exits_if _ _ _ c.from_residual.ensures.1 (λ r. head_unread c.args.reader.text.now c.args.reader.tokens.now ((c.wildcard-wildcard.ensures r).1) (c.in_err-word.ensures r))

pub returns-in_err-name-clause-fails : goal.returns-in_err-name-clause-fails
returns-in_err-name-clause-fails c = exits_if _ _ _ c.from_residual-in_err-name.ensures.1 (λ r. head_breaks c.args.reader.text.now c.args.reader.tokens.now ((c.wildcard-wildcard.ensures r).1) (c.in_ok-word.ensures r) (c.in_err-name.ensures r))

pub returns-clause-read : goal.returns-clause-read
returns-clause-read c = λ r. rw c.start_at-start.ensures (head_reads c.args.reader.text.now c.args.reader.tokens.now _ ((c.wildcard-wildcard.ensures r).2) ((c.wildcard-wildcard.ensures r).1) (c.in_ok-word.ensures r) (c.in_ok-name.ensures r))
