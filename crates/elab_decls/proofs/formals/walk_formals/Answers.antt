use Rattle.std.proofs.lemmas.Result.{err_from_is_err_and}
use Rattle.elab_decls.specs.Formals.{formals_walked}
use Rattle.elab_base.proofs.Folds.{left_more, left_stops, left_done}
use Rattle.elab_decls.proofs.formals.walk_formals.Goals as goal

pub returns-in_err-add_formal : goal.returns-in_err-add_formal
unfolding formals_walked
returns-in_err-add_formal c =
    let p = err_from_is_err_and c.from_residual.result c.from_residual.ensures.1 in
    rw (p.1, p.2) (left_stops c.in_err-add_formal.field-0.0 c.index-formals-place.result c.loop-place.invariant c.loop-place-test.true c.index-formals-place.is c.in_err-add_formal.ensures)

pub loop-place-preserved : goal.loop-place-preserved
loop-place-preserved c = left_more c.index-formals-place.result c.add_formal.new.all c.loop-place.invariant c.loop-place-test.true c.index-formals-place.is c.in_ok-add_formal.ensures

pub returns : goal.returns
unfolding formals_walked
returns c = left_done c.loop-place.invariant c.loop-place-test.false
