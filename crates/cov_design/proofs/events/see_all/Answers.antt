use Rattle.std.proofs.lemmas.Result.{err_from_is_err_and}
use Rattle.cov_design.specs.Events.{all_seen}
use Rattle.elab_base.proofs.Folds.{left_more, left_stops, left_done}
use Rattle.cov_design.proofs.events.see_all.Goals as goal

pub returns-in_err-see : goal.returns-in_err-see
unfolding all_seen
returns-in_err-see c =
    let p = err_from_is_err_and c.from_residual.result c.from_residual.ensures.1 in
    rw (p.1, p.2) (left_stops c.in_err-see.field-0.0 c.index-text-place.result c.loop-place.invariant c.loop-place-test.true c.index-text-place.is c.in_err-see.ensures)

pub loop-place-preserved : goal.loop-place-preserved
loop-place-preserved c = left_more c.index-text-place.result c.see.new.all c.loop-place.invariant c.loop-place-test.true c.index-text-place.is c.in_ok-see.ensures

pub returns : goal.returns
unfolding all_seen
returns c = left_done c.loop-place.invariant c.loop-place-test.false
