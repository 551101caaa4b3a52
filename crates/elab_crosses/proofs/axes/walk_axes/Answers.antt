use Rattle.std.proofs.lemmas.Result.{err_from_is_err_and}
use Rattle.elab_crosses.specs.Axes.{axes_walked}
use Rattle.elab_base.proofs.Folds.{left_more, left_stops, left_done}
use Rattle.elab_crosses.proofs.axes.walk_axes.Goals as goal

pub returns-in_err-add_axis : goal.returns-in_err-add_axis
unfolding axes_walked
returns-in_err-add_axis c =
    let p = err_from_is_err_and c.from_residual.result c.from_residual.ensures.1 in
    rw (p.1, p.2) (left_stops c.in_err-add_axis.field-0.0 c.name-item.result c.loop-name.invariant c.loop-name-test.true c.name-item.is c.in_err-add_axis.ensures)

pub loop-name-preserved : goal.loop-name-preserved
loop-name-preserved c = left_more c.name-item.result c.add_axis.new.named c.loop-name.invariant c.loop-name-test.true c.name-item.is c.in_ok-add_axis.ensures

pub returns : goal.returns
unfolding axes_walked
returns c = left_done c.loop-name.invariant c.loop-name-test.false
