use Rattle.std.proofs.Common.{◌≡◌, subst, Ok}
use Rattle.std.proofs.lemmas.Result.{err_from_is_err_and}
use Rattle.const_eval.specs.Scopes.{Levels}
use Rattle.elab_base.specs.Gives.{Fails}
use Rattle.elab_members.specs.Crosses.{headed_cross, bins_crossed}
use Rattle.elab_members.proofs.Stops.{fails_bind}
use Rattle.elab_members.proofs.crosses.add_bins.Goals as goal

pub returns-in_err-head-clause-gives : goal.returns-in_err-head-clause-gives
unfolding bins_crossed
returns-in_err-head-clause-gives c =
    let p = err_from_is_err_and c.from_residual.result c.from_residual.ensures.1 in
    rw (p.1, p.2) (fails_bind c.in_err-head.field-0.0 _ _ c.in_err-head.ensures.gives)

pub returns-in_err-add_headed-clause-gives : goal.returns-in_err-add_headed-clause-gives
unfolding bins_crossed
returns-in_err-add_headed-clause-gives c =
    let p = err_from_is_err_and c.from_residual-in_err-add_headed.result c.from_residual-in_err-add_headed.ensures.1 in
    let fault = c.in_err-add_headed.field-0.0 in
    let here = subst (λ (s : Levels). Fails fault (headed_cross s c.in_ok-head.head c.args.cross.now c.args.axes c.args.sizes.now c.args.items.now)) c.read_head.ensures.same c.in_err-add_headed.ensures in
    rw (p.1, p.2, c.in_ok-head.ensures.gives) here

pub returns-clause-gives : goal.returns-clause-gives
unfolding bins_crossed
returns-clause-gives c =
    let here = subst (λ (s : Levels). headed_cross s c.in_ok-head.head c.args.cross.now c.args.axes c.args.sizes.now c.args.items.now ≡ Ok c.add_headed.new.items) c.read_head.ensures.same c.in_ok-add_headed.ensures in
    rw (c.in_ok-head.ensures.gives) here
