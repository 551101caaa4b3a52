use Rattle.std.proofs.Common.{◌≡◌, subst, Ok}
use Rattle.std.proofs.lemmas.Result.{err_from_is_err_and}
use Rattle.elab_base.specs.Gives.{Fails}
use Rattle.elab_decls.specs.declared.outside.Outside.{Outside}
use Rattle.elab_members.specs.Crosses.{named_cross, placed_cross}
use Rattle.elab_members.proofs.crosses.add_placed.Goals as goal

pub returns-in_err-add_crossed-clause-gives : goal.returns-in_err-add_crossed-clause-gives
unfolding placed_cross
returns-in_err-add_crossed-clause-gives c =
    let p = err_from_is_err_and c.from_residual-in_err-add_crossed.result c.from_residual-in_err-add_crossed.ensures.1 in
    let fault = c.in_err-add_crossed.field-0.0 in
    let axes = c.place_points.new.axes in
    let items = c.place_points.new.items in
    let here = subst (λ (o : Outside). Fails fault (named_cross o.scope c.args.inside.now c.args.name c.args.cross.now axes items)) c.place_points.ensures.same c.in_err-add_crossed.ensures.gives in
    rw (p.1, p.2, c.in_ok-place_points.ensures.gives) here

pub returns-clause-gives : goal.returns-clause-gives
unfolding placed_cross
returns-clause-gives c =
    let axes = c.place_points.new.axes in
    let items = c.place_points.new.items in
    let here = subst (λ (o : Outside). named_cross o.scope c.args.inside.now c.args.name c.args.cross.now axes items ≡ Ok c.add_crossed.new.items) c.place_points.ensures.same c.in_ok-add_crossed.ensures.gives in
    rw (c.in_ok-place_points.ensures.gives) here
