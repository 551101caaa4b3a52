use Rattle.std.proofs.Common.{◌≡◌, ap, sym, subst, Result, Ok}
use Rattle.std.proofs.lemmas.Result.{err_from_is_err_and}
use Rattle.const_eval.specs.Scopes.{Levels}
use Rattle.elab_base.specs.Gives.{Refusal, Fails}
use Rattle.elab_members.specs.declared.items.Items.{Items}
use Rattle.elab_members.specs.declared.items.Inside.{Inside}
use Rattle.elab_members.specs.Members.{members_walked}
use Rattle.elab_members.proofs.Heads.{inside_range}
use Rattle.elab_members.proofs.Stops.{fails_bind}
use Rattle.cov_design.specs.declared.instances.Body.{Body}
use Rattle.cov_design.specs.Instances.{body_walked}
use Rattle.cov_design.proofs.instances.walk_inside.Goals as goal

abbrev body_of : Items → Inside → Result Body Refusal
body_of items inside = Ok (record { options = inside.options; items = items })

pub walk_members-requires : goal.walk_members-requires
walk_members-requires c = inside_range c.args.outside.now.scope c.args.names c.in_ok-options.options c.args.members.now c.in_ok-inside.inside c.in_ok-options.ensures.gives c.in_ok-inside.ensures

pub returns-in_err-items-clause-gives : goal.returns-in_err-items-clause-gives
unfolding body_walked
returns-in_err-items-clause-gives c =
    let p = err_from_is_err_and c.from_residual-in_err-items.result c.from_residual-in_err-items.ensures.1 in
    let fault = c.in_err-items.field-0.0 in
    let inside = c.in_ok-inside.inside in
    let scoped = subst (λ (s : Levels). Fails fault (members_walked (record c.args.outside.now { scope = s }) inside c.args.counts c.args.members.now)) c.read_options.ensures.scope c.in_err-items.ensures.gives in
    let here = subst (λ (i : Inside). Fails fault (members_walked c.args.outside.now i c.args.counts c.args.members.now)) c.in_ok-inside.ensures scoped in
    rw (p.1, p.2, c.in_ok-options.ensures.gives) (fails_bind fault _ _ here)

pub returns-clause-gives : goal.returns-clause-gives
unfolding body_walked
returns-clause-gives c =
    let inside = c.in_ok-inside.inside in
    let items = c.in_ok-items.items in
    let scoped = subst (λ (s : Levels). members_walked (record c.args.outside.now { scope = s }) inside c.args.counts c.args.members.now ≡ Ok items) c.read_options.ensures.scope c.in_ok-items.ensures.gives in
    let here = subst (λ (i : Inside). members_walked c.args.outside.now i c.args.counts c.args.members.now ≡ Ok items) c.in_ok-inside.ensures scoped in
    rw (c.in_ok-options.ensures.gives, here) (ap (body_of items) (sym c.in_ok-inside.ensures))
