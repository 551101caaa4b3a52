use Rattle.cov_grammar.proofs.Steps.{exits}
use Rattle.item_parser.proofs.BinsWalks.{no_guard, guard_part}
use Rattle.item_parser.proofs.options.guard.Goals as goal

pub returns-in_default : goal.returns-in_default
returns-in_default c = rw c.of.ensures (no_guard c.args.reader.text.now c.args.reader.tokens.now c.in_default.ensures.none)

pub returns-in_err-condition : goal.returns-in_err-condition
returns-in_err-condition c = exits _ _ _ _ _ c.from_residual.ensures.1 ((guard_part c.args.reader.text.now c.args.reader.tokens.now (c.in-Some.ensures.some _)).fails c.in_err-condition.ensures)

pub returns : goal.returns
returns c = rw (c.of-2.ensures, c.put.ensures) ((guard_part c.args.reader.text.now c.args.reader.tokens.now (c.in-Some.ensures.some _)).reads c.in_ok-condition.ensures)
