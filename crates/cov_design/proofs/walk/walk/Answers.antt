use Rattle.std.proofs.lemmas.Result.{err_from_is_err_and}
use Rattle.elab_base.proofs.Folds.{left_more, left_stops, left_done}
use Rattle.cov_design.proofs.walk.walk.Goals as goal

pub returns-in_err-declare : goal.returns-in_err-declare
returns-in_err-declare c =
    let p = err_from_is_err_and c.from_residual.result c.from_residual.ensures.1 in
    rw (p.1, p.2) (left_stops c.in_err-declare.field-0.0 c.index-text-place.result c.loop-place.invariant c.loop-place-test.true c.index-text-place.is c.in_err-declare.ensures)

pub loop-place-preserved : goal.loop-place-preserved
loop-place-preserved c = left_more c.index-text-place.result c.declare.new.known c.loop-place.invariant c.loop-place-test.true c.index-text-place.is c.in_ok-declare.ensures

pub returns : goal.returns
returns c = left_done c.loop-place.invariant c.loop-place-test.false
