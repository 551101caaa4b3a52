use Rattle.std.proofs.Common.{◌∙◌, ap, sym}
use Rattle.cov_history.specs.declared.entry.Event.TheVariants as event
use Rattle.cov_history.specs.Answers.{by}
use Rattle.cov_history.specs.History.{has}
use Rattle.history_answers.proofs.Changing.{already_is, excluded_is}
use Rattle.history_answers.proofs.changes.exclude_answer.Goals as goal

pub returns-then-has : goal.returns-then-has
returns-then-has c caller =
    let d = c.design_at.result.now in
    let out = ap (has c.args.path.now) (sym (c.as_slice.ensures.value ∙ c.in_ok-out.ensures)) ∙ sym c.if-has.ensures in
    already_is c.args.opening.now d c.args.entries.now c.in_ok-tree.tree c.args.path.now c.in-Some.field-0 c.design_at.ensures c.in_ok-tree.ensures (sym c.find.ensures ∙ c.in-Some.is) (by caller (event.Exclude c.args.path.now)) out

pub returns : goal.returns
returns c caller =
    let d = c.design_at.result.now in
    let out = ap (has c.args.path.now) (sym (c.as_slice.ensures.value ∙ c.in_ok-out.ensures)) ∙ sym c.if-has.ensures in
    excluded_is c.args.opening.now d c.args.entries.now c.in_ok-tree.tree c.args.path.now c.in-Some.field-0 c.design_at.ensures c.in_ok-tree.ensures (sym c.find.ensures ∙ c.in-Some.is) (by caller (event.Exclude c.args.path.now)) c.in_ok-answer.answer out (c.in_ok-answer.ensures caller)
