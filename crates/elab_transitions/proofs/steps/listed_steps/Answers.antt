use Rattle.std.proofs.lemmas.Result.{err_from_is_err_and}
use Rattle.elab_transitions.specs.Steps.{steps_of}
use Rattle.elab_base.proofs.Folds.{left_more, left_stops, left_done}
use Rattle.elab_transitions.proofs.steps.listed_steps.Goals as goal

pub returns-in_err-add_step : goal.returns-in_err-add_step
unfolding steps_of
returns-in_err-add_step c =
    let p = err_from_is_err_and c.from_residual.result c.from_residual.ensures.1 in
    rw (p.1, p.2) (left_stops c.in_err-add_step.field-0.0 c.step-item.result c.loop-step.invariant c.loop-step-test.true c.step-item.is c.in_err-add_step.ensures)

pub loop-step-preserved : goal.loop-step-preserved
loop-step-preserved c = left_more c.step-item.result c.add_step.new.steps c.loop-step.invariant c.loop-step-test.true c.step-item.is c.in_ok-add_step.ensures

pub returns : goal.returns
unfolding steps_of
returns c = left_done c.loop-step.invariant c.loop-step-test.false
