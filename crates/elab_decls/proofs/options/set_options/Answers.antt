use Rattle.std.proofs.Common.{◌≡◌, ◌∙◌, subst, Ok}
use Rattle.std.proofs.lemmas.Result.{err_from_is_err_and}
use Rattle.const_eval.specs.Scopes.{Levels}
use Rattle.elab_base.specs.Gives.{Fails}
use Rattle.elab_decls.specs.Options.{option_set, options_set}
use Rattle.elab_base.proofs.Folds.{left_more, left_stops, left_done}
use Rattle.elab_decls.proofs.options.set_options.Goals as goal

pub returns-in_err-set_option-clause-gives : goal.returns-in_err-set_option-clause-gives
unfolding options_set
returns-in_err-set_option-clause-gives c =
    let p = err_from_is_err_and c.from_residual.result c.from_residual.ensures.1 in
    let fault = c.in_err-set_option.field-0.0 in
    let here = subst (λ (s : Levels). Fails fault (option_set c.args.level s c.option-item.result c.loop-option.options)) c.loop-option.invariant.1 c.in_err-set_option.ensures.gives in
    rw (p.1, p.2) (left_stops fault c.option-item.result c.loop-option.invariant.0 c.loop-option-test.true c.option-item.is here)

pub loop-option-preserved : goal.loop-option-preserved
loop-option-preserved c =
    let here = subst (λ (s : Levels). option_set c.args.level s c.option-item.result c.loop-option.options ≡ Ok c.set_option.new.options) c.loop-option.invariant.1 c.in_ok-set_option.ensures.gives in
    (left_more c.option-item.result c.set_option.new.options c.loop-option.invariant.0 c.loop-option-test.true c.option-item.is here, c.set_option.ensures.scope ∙ c.loop-option.invariant.1)

pub returns-clause-gives : goal.returns-clause-gives
unfolding options_set
returns-clause-gives c = left_done c.loop-option.invariant.0 c.loop-option-test.false
