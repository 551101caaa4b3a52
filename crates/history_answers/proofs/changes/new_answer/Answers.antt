use Rattle.std.proofs.Common.{◌∙◌, ap, arith}
use Rattle.ucis_model.specs.declared.answers.Answer.TheVariants as answers
use Rattle.cov_history.specs.declared.entry.Event.TheVariants as event
use Rattle.cov_history.specs.Answers.{by}
use Rattle.design_data.specs.declared.design.Design.{Design}
use Rattle.std.proofs.Common.{◌+◌}
use Rattle.cov_history.specs.History.{bins_hit}
use Rattle.cov_history.proofs.Amounting.{amounts_more}
use Rattle.history_answers.proofs.Amounting.{amount_is, legal_amounts, change_is}
use Rattle.history_answers.proofs.changes.new_answer.Goals as goal

pub amounts_of-requires-clause-within : goal.amounts_of-requires-clause-within
amounts_of-requires-clause-within c which = legal_amounts c.args.opening.now c.args.entries.now c.requires.legal which

pub with_test-requires : goal.with_test-requires
with_test-requires c which =
    let a = amount_is c.args.opening.now c.args.entries.now c.in_ok-before.before c.in_ok-before.ensures which in
    let most = legal_amounts c.args.opening.now c.args.entries.now c.requires.legal which in
    omega (arith, a, most)

pub returns : goal.returns
returns c caller =
    let o = c.args.opening.now in
    let h = c.args.entries.now in
    let r = c.args.content.now in
    let before = c.in_ok-before.before in
    let after = c.in_ok-after.after in
    let e = c.in_ok-after.ensures in
    change_is o h (by caller (event.Admit r)) before after answers.New c.unless_full.result c.in_ok-before.ensures
    (amounts_more o h caller r before after c.in_ok-before.ensures e.tests e.bytes (e.entries ∙ ap (λ (d : Design). before.entries + bins_hit d r) c.design_at.ensures) e.history) c.unless_full.ensures
