use Rattle.std.proofs.Common.{◌∙◌, ap, List}
use Rattle.ucis_model.specs.declared.node.Node.{Node}
use Rattle.cov_history.specs.Nodes.{children}
use Rattle.store_sums.proofs.sums.Sums.children.Goals as goal

pub returns : goal.returns
returns c = c.children.ensures ∙ ap (λ (ns : List Node). children ns c.args.node) c.args.self.now.nodes_are
