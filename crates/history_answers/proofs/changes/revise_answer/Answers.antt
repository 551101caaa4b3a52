use Rattle.std.proofs.Common.{sym}
use Rattle.cov_history.specs.declared.entry.Event.TheVariants as event
use Rattle.cov_history.specs.Answers.{by}
use Rattle.history_answers.proofs.Changing.{revision_moved, revision_is}
use Rattle.history_answers.proofs.changes.revise_answer.Goals as goal

pub returns-then-changed_since : goal.returns-then-changed_since
returns-then-changed_since c caller = revision_moved c.args.opening.now c.args.entries.now c.args.since (by caller (event.Revise c.args.revision.now)) (sym c.if-changed_since.ensures)

pub returns : goal.returns
returns c caller = revision_is c.args.opening.now c.args.entries.now c.args.since (by caller (event.Revise c.args.revision.now)) c.in_ok-answer.answer (sym c.if-changed_since.ensures) (c.in_ok-answer.ensures caller)
