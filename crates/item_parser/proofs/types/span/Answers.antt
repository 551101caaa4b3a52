use Rattle.cov_grammar.proofs.Steps.{exits}
use Rattle.item_parser.proofs.TypeWalks.{no_span, span_no_high, span_no_colon, span_no_low, span_closes}
use Rattle.item_parser.proofs.types.span.Goals as goal

pub returns-in_default : goal.returns-in_default
returns-in_default c = rw c.of.ensures (no_span _ _ c.in_default.ensures.none)

pub returns-in_err-high : goal.returns-in_err-high
returns-in_err-high c = exits _ _ _ _ _ c.from_residual.ensures.1 (span_no_high _ _ (c.in-Some.ensures.some _) c.in_err-high.ensures)

pub returns-in_err-at : goal.returns-in_err-at
returns-in_err-at c = exits _ _ _ _ _ c.from_residual-in_err-at.ensures.1 (span_no_colon _ _ (c.in-Some.ensures.some _) c.in_ok-high.ensures (c.in_err-at.ensures _))

pub returns-in_err-low : goal.returns-in_err-low
returns-in_err-low c = exits _ _ _ _ _ c.from_residual-in_err-low.ensures.1 (span_no_low _ _ (c.in-Some.ensures.some _) c.in_ok-high.ensures (c.in_ok-at.ensures _) c.in_err-low.ensures)

pub returns-in_err-after : goal.returns-in_err-after
returns-in_err-after c = exits _ _ _ _ _ c.from_residual-in_err-after.ensures.1 ((span_closes _ _ (c.in-Some.ensures.some _) c.in_ok-high.ensures (c.in_ok-at.ensures _) c.in_ok-low.ensures).fails (c.in_err-after.ensures _))

pub returns : goal.returns
returns c = rw (c.of-2.ensures, c.put.ensures, c.put-2.ensures) ((span_closes _ _ (c.in-Some.ensures.some _) c.in_ok-high.ensures (c.in_ok-at.ensures _) c.in_ok-low.ensures).reads (c.in_ok-after.ensures _))
