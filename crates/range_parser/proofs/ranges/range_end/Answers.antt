use Rattle.cov_grammar.proofs.Steps.{exits}
use Rattle.range_parser.proofs.ValueWalks.{value_reads, value_fails, dollar_reads}
use Rattle.range_parser.proofs.ranges.range_end.Goals as goal

pub returns-in-Some : goal.returns-in-Some
returns-in-Some c = rw c.of.ensures (dollar_reads c.args.reader.text.now c.args.reader.tokens.now c.in-Some.ensures.here (c.in-Some.ensures.some c.args.room))

pub returns-in_err-value : goal.returns-in_err-value
returns-in_err-value c = exits _ _ _ _ _ c.from_residual.ensures.1 (value_fails c.args.reader.text.now c.args.reader.tokens.now c.in_default.ensures.none c.in_err-value.ensures)

pub returns : goal.returns
returns c = rw (c.of-2.ensures, c.put.ensures) (value_reads c.args.reader.text.now c.args.reader.tokens.now c.in_default.ensures.none c.in_ok-value.ensures)
