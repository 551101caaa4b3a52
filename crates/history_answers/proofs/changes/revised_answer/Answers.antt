use Rattle.std.proofs.Common.{arith}
use Rattle.ucis_model.specs.declared.answers.Answer.TheVariants as answers
use Rattle.cov_history.specs.declared.entry.Event.TheVariants as event
use Rattle.cov_history.specs.Answers.{by}
use Rattle.ucis_model.specs.declared.answers.Which.TheVariants.{Bytes}
use Rattle.history_answers.proofs.Amounting.{legal_amounts, revised_amounts, change_is}
use Rattle.history_answers.proofs.changes.revised_answer.Goals as goal

pub amounts_of-requires-clause-within : goal.amounts_of-requires-clause-within
amounts_of-requires-clause-within c which = legal_amounts c.args.opening.now c.args.entries.now c.requires.legal which

pub with_revision-requires-clause-bytes : goal.with_revision-requires-clause-bytes
with_revision-requires-clause-bytes c =
    let a = c.in_ok-before.ensures.bytes in
    let most = legal_amounts c.args.opening.now c.args.entries.now c.requires.legal Bytes in
    omega (arith, a, most)

pub returns : goal.returns
returns c caller =
    let o = c.args.opening.now in
    let h = c.args.entries.now in
    let before = c.in_ok-before.before in
    let after = c.in_ok-after.after in
    let e = c.in_ok-after.ensures in
    change_is o h (by caller (event.Revise c.args.revision.now)) before after answers.Changed c.unless_full.result c.in_ok-before.ensures
    (revised_amounts o h caller c.args.revision.now before after c.in_ok-before.ensures e.tests e.bytes e.entries e.history) c.unless_full.ensures
