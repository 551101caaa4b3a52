use Rattle.cov_grammar.proofs.Steps.{exits}
use Rattle.item_parser.proofs.MemberWalks.{event_unopened, event_stops, event_closes}
use Rattle.item_parser.proofs.events.event.Goals as goal

pub returns-in_err-at : goal.returns-in_err-at
returns-in_err-at c = exits _ _ _ _ _ c.from_residual.ensures.1 (event_unopened c.args.reader.text.now _ (c.in_err-at.ensures _))

pub returns-in_err-edges : goal.returns-in_err-edges
returns-in_err-edges c = exits _ _ _ _ _ c.from_residual-in_err-edges.ensures.1 (event_stops _ _ (c.in_ok-at.ensures _) c.in_err-edges.ensures)

pub returns-in_err-after : goal.returns-in_err-after
returns-in_err-after c = exits _ _ _ _ _ c.from_residual-in_err-after.ensures.1 ((event_closes _ _ (c.in_ok-at.ensures _) c.in_ok-edges.ensures).fails (c.in_err-after.ensures _))

pub returns : goal.returns
returns c = (event_closes _ _ (c.in_ok-at.ensures _) c.in_ok-edges.ensures).reads (c.in_ok-after.ensures _)
