use Rattle.std.proofs.Common.{◌≡◌, ◌∙◌, ap, sym, Some}
use Rattle.ucis_model.specs.declared.answers.Answer.TheVariants as answers
use Rattle.cov_history.specs.Nodes.{node_of_bin}
use Rattle.history_answers.proofs.Asked.{name_found}
use Rattle.history_answers.proofs.queries.name_answer.Goals as goal

pub returns : goal.returns
returns c =
    let nodes = c.in_ok-tree.tree in
    let f : node_of_bin nodes c.args.bin ≡ Some c.in-Some.node = ap (λ ns. node_of_bin ns c.args.bin) (sym c.nodes-2.ensures) ∙ sym c.in-Some.ensures.node in
    ap (λ p. answers.PathIs p) c.in_ok-path.ensures ∙ name_found c.args.opening.now c.design_at.result.now c.args.entries.now nodes c.design_at.ensures c.in_ok-tree.ensures c.args.bin c.in-Some.node f
