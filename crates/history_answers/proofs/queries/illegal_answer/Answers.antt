use Rattle.std.proofs.Common.{◌∙◌}
use Rattle.history_answers.proofs.Asked.{illegal_found}
use Rattle.history_answers.proofs.queries.illegal_answer.Goals as goal

pub returns : goal.returns
returns c =
    illegal_found c.args.opening.now c.design_at-design.result.now c.args.entries.now c.in_ok-tree.tree c.design_at-design.ensures c.in_ok-tree.ensures c.as_slice.result.now c.args.first c.in_ok-answer.answer (c.as_slice.ensures.value ∙ c.in_ok-counts.ensures) c.in_ok-answer.ensures
