use Rattle.std.proofs.Common.{◌≡◌, ◌∙◌, sym, Some, None}
use Rattle.std.specs.Prelude.{find, bytes_eq}
use Rattle.cov_history.specs.declared.entry.Event.TheVariants as event
use Rattle.cov_history.specs.Answers.{by}
use Rattle.history_answers.specs.declared.keeping.Kept.{Kept}
use Rattle.history_answers.specs.Kept.{kept_from}
use Rattle.history_answers.proofs.Changing.{known_is, moved_is, new_is}
use Rattle.history_answers.proofs.changes.admit_answer.Goals as goal

pub returns-in-Some : goal.returns-in-Some
returns-in-Some c caller =
    let d = c.design_at.result.now in
    let h = c.args.entries.now in
    let r = c.args.content.now in
    let kept = c.as_slice.ensures.value ∙ c.in_ok-tests.ensures in
    let f : find (λ (x : Kept). bytes_eq r.id x.row.id) (kept_from d 0 h) ≡ Some c.in-Some.test.now = (λ i. find (λ (x : Kept). bytes_eq (sym c.as_slice-2.ensures i) x.row.id) (sym kept i)) ∙ sym c.in-Some.ensures in
    known_is c.args.opening.now d h c.args.since (by caller (event.Admit r)) r c.in-Some.test.now c.as_slice-in-Some.result.now c.known.result f (c.as_slice-in-Some.ensures.value ∙ c.in_ok-bytes.ensures.spelled) c.known.ensures

pub returns-then-revised_since : goal.returns-then-revised_since
returns-then-revised_since c caller =
    let d = c.design_at.result.now in
    let h = c.args.entries.now in
    let r = c.args.content.now in
    let kept = c.as_slice.ensures.value ∙ c.in_ok-tests.ensures in
    let f : find (λ (x : Kept). bytes_eq r.id x.row.id) (kept_from d 0 h) ≡ None = (λ i. find (λ (x : Kept). bytes_eq (sym c.as_slice-2.ensures i) x.row.id) (sym kept i)) ∙ sym c.in_default.ensures in
    moved_is c.args.opening.now d h c.args.since (by caller (event.Admit r)) r f (sym c.if-revised_since.ensures)

pub returns : goal.returns
returns c caller =
    let d = c.design_at.result.now in
    let h = c.args.entries.now in
    let r = c.args.content.now in
    let kept = c.as_slice.ensures.value ∙ c.in_ok-tests.ensures in
    let f : find (λ (x : Kept). bytes_eq r.id x.row.id) (kept_from d 0 h) ≡ None = (λ i. find (λ (x : Kept). bytes_eq (sym c.as_slice-2.ensures i) x.row.id) (sym kept i)) ∙ sym c.in_default.ensures in
    new_is c.args.opening.now d h c.args.since (by caller (event.Admit r)) r f c.in_ok-answer.answer (sym c.if-revised_since.ensures) (c.in_ok-answer.ensures caller)
