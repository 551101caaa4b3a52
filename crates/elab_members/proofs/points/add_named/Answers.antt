use Rattle.std.proofs.Common.{◌≡◌, subst, Ok}
use Rattle.std.proofs.lemmas.Result.{err_from_is_err_and}
use Rattle.elab_base.specs.Gives.{Fails}
use Rattle.elab_decls.specs.declared.outside.Outside.{Outside}
use Rattle.elab_members.specs.Points.{headed_point, named_point}
use Rattle.elab_members.proofs.points.add_named.Goals as goal

pub returns-in_err-add_headed-clause-gives : goal.returns-in_err-add_headed-clause-gives
unfolding named_point
returns-in_err-add_headed-clause-gives c =
    let p = err_from_is_err_and c.from_residual-in_err-add_headed.result c.from_residual-in_err-add_headed.ensures.1 in
    let fault = c.in_err-add_headed.field-0.0 in
    let here = subst (λ (o : Outside). Fails fault (headed_point o c.args.inside.now c.in_ok-head.head c.args.point.now c.args.items.now)) c.read_head.ensures.same c.in_err-add_headed.ensures in
    rw (p.1, p.2, c.in_ok-check_unused.ensures, c.in_ok-check_room.ensures.gives, c.in_ok-head.ensures.gives) here

pub returns-clause-gives : goal.returns-clause-gives
unfolding named_point
returns-clause-gives c =
    let here = subst (λ (o : Outside). headed_point o c.args.inside.now c.in_ok-head.head c.args.point.now c.args.items.now ≡ Ok c.add_headed.new.items) c.read_head.ensures.same c.in_ok-add_headed.ensures in
    rw (c.in_ok-check_unused.ensures, c.in_ok-check_room.ensures.gives, c.in_ok-head.ensures.gives) here
