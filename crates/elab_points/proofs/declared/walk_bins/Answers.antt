use Rattle.std.proofs.lemmas.Result.{err_from_is_err_and}
use Rattle.elab_bins.specs.Declarations.{bins_walked}
use Rattle.elab_base.proofs.Folds.{left_more, left_stops, left_done}
use Rattle.elab_points.proofs.declared.walk_bins.Goals as goal

pub returns-in_err-declare : goal.returns-in_err-declare
unfolding bins_walked
returns-in_err-declare c =
    let p = err_from_is_err_and c.from_residual.result c.from_residual.ensures.1 in
    rw (p.1, p.2) (left_stops c.in_err-declare.field-0.0 c.decl-item.result c.loop-decl.invariant c.loop-decl-test.true c.decl-item.is c.in_err-declare.ensures)

pub loop-decl-preserved : goal.loop-decl-preserved
loop-decl-preserved c = left_more c.decl-item.result c.declare.new.walked c.loop-decl.invariant c.loop-decl-test.true c.decl-item.is c.in_ok-declare.ensures

pub returns : goal.returns
unfolding bins_walked
returns c = left_done c.loop-decl.invariant c.loop-decl-test.false
