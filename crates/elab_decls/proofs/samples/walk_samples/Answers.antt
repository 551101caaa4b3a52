use Rattle.std.proofs.lemmas.Result.{err_from_is_err_and}
use Rattle.elab_decls.specs.Formals.{samples_walked}
use Rattle.elab_base.proofs.Folds.{left_more, left_stops, left_done}
use Rattle.elab_decls.proofs.samples.walk_samples.Goals as goal

pub returns-in_err-add_argument : goal.returns-in_err-add_argument
unfolding samples_walked
returns-in_err-add_argument c =
    let p = err_from_is_err_and c.from_residual.result c.from_residual.ensures.1 in
    rw (p.1, p.2) (left_stops c.in_err-add_argument.field-0.0 c.argument-item.result c.loop-argument.invariant c.loop-argument-test.true c.argument-item.is c.in_err-add_argument.ensures)

pub loop-argument-preserved : goal.loop-argument-preserved
loop-argument-preserved c = left_more c.argument-item.result c.add_argument.new.all c.loop-argument.invariant c.loop-argument-test.true c.argument-item.is c.in_ok-add_argument.ensures

pub returns : goal.returns
unfolding samples_walked
returns c = left_done c.loop-argument.invariant c.loop-argument-test.false
