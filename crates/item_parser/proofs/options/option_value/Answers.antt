use Rattle.cov_grammar.proofs.Steps.{exits}
use Rattle.item_parser.proofs.BinsWalks.{quoted_reads, number_reads, number_fails}
use Rattle.item_parser.proofs.options.option_value.Goals as goal

pub returns-in-Some : goal.returns-in-Some
returns-in-Some c = rw (c.of.ensures, c.in_ok-inside.ensures) (quoted_reads c.args.reader.text.now c.args.reader.tokens.now c.in-Some.ensures.here (c.in-Some.ensures.some c.args.room))

pub returns-in_err-number : goal.returns-in_err-number
returns-in_err-number c = exits _ _ _ _ _ c.from_residual-in_err-number.ensures.1 (number_fails c.args.reader.text.now c.args.reader.tokens.now c.in_default.ensures.none c.in_err-number.ensures)

pub returns : goal.returns
returns c = rw (c.of-2.ensures, c.put.ensures) (number_reads c.args.reader.text.now c.args.reader.tokens.now c.in_default.ensures.none c.in_ok-number.ensures)
