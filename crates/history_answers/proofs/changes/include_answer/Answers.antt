use Rattle.std.proofs.Common.{◌∙◌, ap, sym, true, false}
use Rattle.cov_history.specs.History.{has}
use Rattle.history_answers.proofs.Changing.{included_is}
use Rattle.history_answers.proofs.changes.include_answer.Goals as goal

pub returns-then-has : goal.returns-then-has
returns-then-has c =
    let d = c.design_at.result.now in
    let out = ap (has c.args.path.now) (sym (c.as_slice.ensures.value ∙ c.in_ok-out.ensures)) ∙ sym c.if-has.ensures in
    included_is c.args.opening.now d c.args.entries.now c.in_ok-tree.tree c.args.path.now c.in-Some.field-0 c.design_at.ensures c.in_ok-tree.ensures (sym c.find.ensures ∙ c.in-Some.is) true out

pub returns : goal.returns
returns c =
    let d = c.design_at.result.now in
    let out = ap (has c.args.path.now) (sym (c.as_slice.ensures.value ∙ c.in_ok-out.ensures)) ∙ sym c.if-has.ensures in
    included_is c.args.opening.now d c.args.entries.now c.in_ok-tree.tree c.args.path.now c.in-Some.field-0 c.design_at.ensures c.in_ok-tree.ensures (sym c.find.ensures ∙ c.in-Some.is) false out
