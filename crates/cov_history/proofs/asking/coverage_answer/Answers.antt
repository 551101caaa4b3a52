use Rattle.std.proofs.Common.{◌∙◌, sym}
use Rattle.cov_history.proofs.Flagging.{coverage_is}
use Rattle.cov_history.proofs.asking.coverage_answer.Goals as goal

pub returns : goal.returns
returns c =
    coverage_is c.args.opening.now c.design_at-design.result.now c.args.entries.now c.args.path.now c.in_ok-tree.tree c.in-Some.place c.in_ok-row.row c.design_at-design.ensures c.in_ok-tree.ensures (sym c.find.ensures ∙ c.in-Some.is) c.in_ok-row.ensures
