use Rattle.cov_grammar.proofs.Steps.{exits}
use Rattle.range_parser.proofs.ValueWalks.{no_keep, keep_part}
use Rattle.range_parser.proofs.ranges.maybe_keep.Goals as goal

pub returns-in_default : goal.returns-in_default
returns-in_default c = rw c.of.ensures (no_keep c.args.reader.text.now c.args.reader.tokens.now c.in_default.ensures.none)

pub returns-in_err-keep : goal.returns-in_err-keep
returns-in_err-keep c = exits _ _ _ _ _ c.from_residual.ensures.1 ((keep_part c.args.reader.text.now c.args.reader.tokens.now (c.in-Some.ensures.some _)).fails c.in_err-keep.ensures)

pub returns : goal.returns
returns c = rw (c.of-2.ensures, c.put.ensures) ((keep_part c.args.reader.text.now c.args.reader.tokens.now (c.in-Some.ensures.some _)).reads c.in_ok-keep.ensures)
