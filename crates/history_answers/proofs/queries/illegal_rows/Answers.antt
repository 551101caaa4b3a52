use Rattle.std.proofs.Common.{◌≡◌, ◌∙◌, ap, List}
use Rattle.std.specs.Prelude.{slice_index}
use Rattle.ucis_model.specs.declared.node.Node.{Node}
use Rattle.cov_history.specs.Coverage.{is_excluded}
use Rattle.cov_history.specs.History.{out_of}
use Rattle.cov_history.specs.Answers.{rows, illegal_hit}
use Rattle.history_answers.proofs.queries.illegal_rows.Goals as goal

pub returns : goal.returns
returns c =
    let nodes = c.args.tree.now in
    let o : c.as_slice-2.result.now ≡ out_of c.args.entries.now = c.as_slice-2.ensures.value ∙ c.in_ok-out.ensures in
    let u : c.as_slice-3.result.now ≡ illegal_hit nodes (slice_index c.args.counts.now) = c.as_slice-3.ensures.value ∙ c.in_ok-hit.ensures.hit ∙ ap (λ (ns : List Node). illegal_hit ns (slice_index c.args.counts.now)) c.nodes-2.ensures in
    c.in_ok-answer.ensures ∙ (λ i. rows nodes (slice_index c.args.counts.now) (is_excluded nodes (o i)) c.args.first (u i))
