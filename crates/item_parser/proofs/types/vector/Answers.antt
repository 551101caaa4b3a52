use Rattle.cov_grammar.proofs.Steps.{exits}
use Rattle.item_parser.proofs.TypeWalks.{no_vector, vector_spans}
use Rattle.item_parser.proofs.types.vector.Goals as goal

pub returns-in_default : goal.returns-in_default
returns-in_default c = no_vector _ _ c.in_default.ensures.none

pub returns-in_err-span : goal.returns-in_err-span
returns-in_err-span c =
    let s = c.sign-signed.ensures c.args.room in
    exits _ _ _ _ _ c.from_residual.ensures.1 ((vector_spans _ _ (c.in-Some.ensures.some _) s.1).fails c.in_err-span.ensures)

pub returns : goal.returns
returns c = let s = c.sign-signed.ensures c.args.room in
    rw (c.of.ensures, c.put-span.ensures) (rw s.2 ((vector_spans _ _ (c.in-Some.ensures.some _) s.1).reads c.in_ok-span.ensures))
