use Rattle.std.proofs.Common.{◌≡◌, ◌∙◌, subst, Ok}
use Rattle.std.proofs.lemmas.Result.{err_from_is_err_and}
use Rattle.elab_base.specs.Gives.{Fails}
use Rattle.elab_base.proofs.Folds.{left_more, left_stops, left_done}
use Rattle.elab_decls.specs.declared.outside.Outside.{Outside}
use Rattle.elab_members.specs.Crosses.{placed, axis_placed}
use Rattle.elab_members.proofs.crosses.place_axes.Goals as goal

pub returns-in_err-place_axis-clause-gives : goal.returns-in_err-place_axis-clause-gives
returns-in_err-place_axis-clause-gives c =
    let p = err_from_is_err_and c.from_residual.result c.from_residual.ensures.1 in
    let fault = c.in_err-place_axis.field-0.0 in
    let here = subst (λ (o : Outside). Fails fault (axis_placed o c.args.inside.now c.args.at c.axis-item.result (placed c.loop-axis.items c.loop-axis.axes))) c.loop-axis.invariant.1 c.in_err-place_axis.ensures.gives in
    rw (p.1, p.2) (left_stops fault c.axis-item.result c.loop-axis.invariant.0 c.loop-axis-test.true c.axis-item.is here)

pub loop-axis-preserved : goal.loop-axis-preserved
loop-axis-preserved c =
    let next = placed c.place_axis.new.items c.place_axis.new.axes in
    let here = subst (λ (o : Outside). axis_placed o c.args.inside.now c.args.at c.axis-item.result (placed c.loop-axis.items c.loop-axis.axes) ≡ Ok next) c.loop-axis.invariant.1 c.in_ok-place_axis.ensures.gives in
    (left_more c.axis-item.result next c.loop-axis.invariant.0 c.loop-axis-test.true c.axis-item.is here, c.place_axis.ensures.same ∙ c.loop-axis.invariant.1)

pub returns-clause-gives : goal.returns-clause-gives
returns-clause-gives c = left_done c.loop-axis.invariant.0 c.loop-axis-test.false
