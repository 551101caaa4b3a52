use Rattle.cov_grammar.proofs.Steps.{exits}
use Rattle.range_parser.proofs.SelWalks.{sel_reads, sel_fails}
use Rattle.range_parser.proofs.selections.selection.Goals as goal

pub returns-in_err-sel : goal.returns-in_err-sel
returns-in_err-sel c = exits _ _ _ _ _ c.from_residual.ensures.1 (sel_fails _ _ c.in_err-sel.ensures)

pub returns : goal.returns
returns c = sel_reads _ _ c.in_ok-sel.ensures
