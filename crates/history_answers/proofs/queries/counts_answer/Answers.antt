use Rattle.std.proofs.Common.{◌∙◌, sym}
use Rattle.std.specs.Prelude.{slice_index}
use Rattle.cov_history.specs.History.{count_of}
use Rattle.history_answers.proofs.Asked.{rows_found, counts_meant}
use Rattle.history_answers.proofs.queries.counts_answer.Goals as goal

pub returns : goal.returns
returns c =
    let o = c.args.opening.now in
    let h = c.args.entries.now in
    let d = c.design_at-design.result.now in
    rows_found o d h c.in_ok-tree.tree c.design_at-design.ensures c.in_ok-tree.ensures (slice_index c.as_slice.result.now) (count_of o h) c.args.first c.in-Some.place c.args.path.now c.in_ok-answer.answer (sym c.find.ensures ∙ c.in-Some.is)
    (counts_meant o d h c.as_slice.result.now c.design_at-design.ensures (c.as_slice.ensures.value ∙ c.in_ok-counts.ensures))
    c.in_ok-answer.ensures
