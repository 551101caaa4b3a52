use Rattle.std.proofs.Common.{◌∙◌, ℕ, List, length, map, ap}
use Rattle.std.specs.Prelude.{slice_index}
use Rattle.std.specs.List.{range_with_len}
use Rattle.ucis_model.specs.declared.node.Node.{Node}
use Rattle.cov_history.specs.Answers.{cover_row}
use Rattle.cov_history.specs.Coverage.{is_excluded}
use Rattle.cov_history.specs.Flags.{flagged}
use Rattle.cov_history.proofs.Flagging.{row_is}
use Rattle.cov_history.proofs.asking.row_at.Goals as goal

pub returns : goal.returns
returns c =
    let nodes = c.args.tree.now in
    row_is nodes c.args.design.now c.args.entries.now c.args.place c.as_slice-2.result.now c.as_slice-3.result.now c.in_ok-row.row
    (c.as_slice-2.ensures.value ∙ c.in_ok-counts.ensures)
    (c.as_slice-3.ensures.value ∙ c.in_ok-excluded.ensures ∙ ap (λ (out : List (List ℕ)). map (is_excluded nodes out) (range_with_len 0 (length nodes))) (c.as_slice.ensures.value ∙ c.in_ok-out.ensures))
    (c.in_ok-row.ensures ∙ ap (λ (ns : List Node). cover_row ns (slice_index c.as_slice-2.result.now) (flagged c.as_slice-3.result.now) c.args.place) c.nodes.ensures)
