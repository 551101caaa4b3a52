use Rattle.std.proofs.Common.{arith}
use Rattle.ucis_model.specs.declared.answers.Answer.TheVariants as answers
use Rattle.cov_history.specs.declared.entry.Event.TheVariants as event
use Rattle.cov_history.specs.Answers.{by}
use Rattle.history_answers.proofs.Amounting.{amount_is, legal_amounts, excluded_amounts, change_is}
use Rattle.history_answers.proofs.changes.excluded_answer.Goals as goal

pub amounts_of-requires-clause-within : goal.amounts_of-requires-clause-within
amounts_of-requires-clause-within c which = legal_amounts c.args.opening.now c.args.entries.now c.requires.legal which

pub with_path-after-requires : goal.with_path-after-requires
with_path-after-requires c which =
    let a = amount_is c.args.opening.now c.args.entries.now c.in_ok-before.before c.in_ok-before.ensures which in
    let most = legal_amounts c.args.opening.now c.args.entries.now c.requires.legal which in
    omega (arith, a, most)

pub returns : goal.returns
returns c caller =
    let o = c.args.opening.now in
    let h = c.args.entries.now in
    let before = c.in_ok-before.before in
    let e = c.with_path-after.ensures in
    change_is o h (by caller (event.Exclude c.args.path.now)) before c.with_path-after.result answers.Changed c.unless_full.result c.in_ok-before.ensures
    (excluded_amounts o h caller c.args.path.now before c.with_path-after.result c.in_ok-before.ensures e.tests e.bytes e.entries e.history) c.unless_full.ensures
