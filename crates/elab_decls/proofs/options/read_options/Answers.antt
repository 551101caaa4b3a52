use Rattle.std.proofs.Common.{◌≡◌, ◌∙◌, subst, Ok}
use Rattle.std.proofs.lemmas.Result.{err_from_is_err_and}
use Rattle.const_eval.specs.Scopes.{Levels}
use Rattle.elab_base.specs.Gives.{Fails}
use Rattle.elab_decls.specs.Options.{member_set, group_options}
use Rattle.elab_base.proofs.Folds.{left_more, left_stops, left_done}
use Rattle.elab_decls.proofs.options.read_options.Goals as goal

pub returns-in_err-set_member-clause-gives : goal.returns-in_err-set_member-clause-gives
unfolding group_options
returns-in_err-set_member-clause-gives c =
    let p = err_from_is_err_and c.from_residual.result c.from_residual.ensures.1 in
    let fault = c.in_err-set_member.field-0.0 in
    let here = subst (λ (s : Levels). Fails fault (member_set s c.member-item.result c.loop-member.options)) c.loop-member.invariant.1 c.in_err-set_member.ensures.gives in
    rw (p.1, p.2) (left_stops fault c.member-item.result c.loop-member.invariant.0 c.loop-member-test.true c.member-item.is here)

pub loop-member-preserved : goal.loop-member-preserved
loop-member-preserved c =
    let here = subst (λ (s : Levels). member_set s c.member-item.result c.loop-member.options ≡ Ok c.set_member.new.options) c.loop-member.invariant.1 c.in_ok-set_member.ensures.gives in
    (left_more c.member-item.result c.set_member.new.options c.loop-member.invariant.0 c.loop-member-test.true c.member-item.is here, c.set_member.ensures.scope ∙ c.loop-member.invariant.1)

pub returns-clause-gives : goal.returns-clause-gives
unfolding group_options
returns-clause-gives c = left_done c.loop-member.invariant.0 c.loop-member-test.false
