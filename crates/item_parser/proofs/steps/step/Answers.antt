use Rattle.cov_grammar.proofs.Steps.{exits}
use Rattle.item_parser.proofs.StepWalks.{step_fails, step_breaks, step_reads}
use Rattle.item_parser.proofs.steps.step.Goals as goal

pub returns-in_err-elems : goal.returns-in_err-elems
returns-in_err-elems c = exits _ _ _ _ _ c.from_residual.ensures.1 (step_fails c.args.reader.text.now c.args.reader.tokens.now c.in_err-elems.ensures)

pub returns-in_err-repeated : goal.returns-in_err-repeated
returns-in_err-repeated c = exits _ _ _ _ _ c.from_residual-in_err-repeated.ensures.1 (step_breaks c.args.reader.text.now c.args.reader.tokens.now c.in_ok-elems.ensures c.in_err-repeated.ensures)

pub returns : goal.returns
returns c = rw (c.of.ensures, c.times_or_once-times.ensures, c.start_at-start.ensures) (step_reads c.args.reader.text.now c.args.reader.tokens.now c.in_ok-elems.ensures c.in_ok-repeated.ensures)
