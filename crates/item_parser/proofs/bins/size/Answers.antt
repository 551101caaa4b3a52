use Rattle.cov_grammar.proofs.Steps.{exits}
use Rattle.item_parser.proofs.BinsWalks.{no_size, open_size, size_unread, size_breaks, fixed_size}
use Rattle.item_parser.proofs.bins.size.Goals as goal

pub returns-in_default : goal.returns-in_default
returns-in_default c = rw c.of.ensures (no_size c.args.reader.text.now c.args.reader.tokens.now c.in_default.ensures.none)

pub returns-in-Some-take : goal.returns-in-Some-take
returns-in-Some-take c = rw c.of-in-Some-take.ensures (open_size c.args.reader.text.now c.args.reader.tokens.now (c.in-Some.ensures.some c.args.room) c.in-Some-take.ensures.here (c.in-Some-take.ensures.some _))

pub returns-in_err-count : goal.returns-in_err-count
returns-in_err-count c = exits _ _ _ _ _ c.from_residual.ensures.1 (size_unread c.args.reader.text.now c.args.reader.tokens.now _ (c.in-Some.ensures.some c.args.room) c.in_default-take.ensures.none c.in_err-count.ensures)

pub returns-in_err-after : goal.returns-in_err-after
returns-in_err-after c = exits _ _ _ _ _ c.from_residual-in_err-after.ensures.1 (size_breaks c.args.reader.text.now c.args.reader.tokens.now (c.in-Some.ensures.some c.args.room) c.in_ok-count.ensures (c.in_err-after.ensures _))

pub returns : goal.returns
returns c = rw (c.of-2.ensures, c.put.ensures) (fixed_size c.args.reader.text.now c.args.reader.tokens.now (c.in-Some.ensures.some c.args.room) c.in_ok-count.ensures (c.in_ok-after.ensures _))
