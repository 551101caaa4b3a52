use Rattle.cov_grammar.proofs.Steps.{exits}
use Rattle.item_parser.proofs.DeclWalks.{no_vector_there, vector_read, vector_fails}
use Rattle.item_parser.proofs.declarations.maybe_vector.Goals as goal

pub returns-in_default : goal.returns-in_default
returns-in_default c = rw c.of.ensures (no_vector_there _ _ c.in_default.ensures.none)

pub returns-in_err-base : goal.returns-in_err-base
returns-in_err-base c = exits _ _ _ _ _ c.from_residual.ensures.1 (vector_fails _ _ c.in-Some.ensures.here c.in_err-base.ensures)

pub returns : goal.returns
returns c = rw (c.of-2.ensures, c.put.ensures) (vector_read _ _ c.in_ok-base.ensures)
