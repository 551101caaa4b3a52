use Rattle.std.proofs.Common.{◌≡◌, ◌∙◌, ap, List}
use Rattle.std.specs.Prelude.{slice_index}
use Rattle.ucis_model.specs.declared.node.Node.{Node}
use Rattle.cov_history.specs.Nodes.{bins_under}
use Rattle.cov_history.specs.Coverage.{is_excluded}
use Rattle.cov_history.specs.History.{out_of}
use Rattle.cov_history.specs.Answers.{rows}
use Rattle.history_answers.proofs.queries.rows_under.Goals as goal

pub returns : goal.returns
returns c =
    let nodes = c.args.tree.now in
    let o : c.as_slice-2.result.now ≡ out_of c.args.entries.now = c.as_slice-2.ensures.value ∙ c.in_ok-out.ensures in
    let u : c.bins_under-under.result.now ≡ bins_under nodes c.args.place = c.bins_under-under.ensures.bins ∙ ap (λ (ns : List Node). bins_under ns c.args.place) c.nodes-2.ensures in
    c.in_ok-answer.ensures ∙ (λ i. rows nodes (slice_index c.args.counts.now) (is_excluded nodes (o i)) c.args.first (u i))
