use Rattle.std.proofs.lemmas.Result.{err_from_is_err_and}
use Rattle.elab_decls.specs.Enumerations.{constants_walked}
use Rattle.elab_base.proofs.Folds.{left_more, left_stops, left_done}
use Rattle.elab_decls.proofs.constants.walk_constants.Goals as goal

pub returns-in_err-add_constant : goal.returns-in_err-add_constant
unfolding constants_walked
returns-in_err-add_constant c =
    let p = err_from_is_err_and c.from_residual.result c.from_residual.ensures.1 in
    rw (p.1, p.2) (left_stops c.in_err-add_constant.field-0.0 c.named-item.result c.loop-named.invariant c.loop-named-test.true c.named-item.is c.in_err-add_constant.ensures)

pub loop-named-preserved : goal.loop-named-preserved
loop-named-preserved c = left_more c.named-item.result (c.add_constant.new.outside, c.add_constant.new.all) c.loop-named.invariant c.loop-named-test.true c.named-item.is c.in_ok-add_constant.ensures

pub returns : goal.returns
unfolding constants_walked
returns c = left_done c.loop-named.invariant c.loop-named-test.false
