use Rattle.std.proofs.Common.{◌∙◌, ap, List}
use Rattle.ucis_model.specs.declared.node.Node.{Node}
use Rattle.cov_history.specs.Nodes.{bins_under}
use Rattle.store_sums.proofs.sums.Sums.bins_under.Goals as goal

pub returns-clause-bins : goal.returns-clause-bins
returns-clause-bins c = c.bins_under.ensures.bins ∙ ap (λ (ns : List Node). bins_under ns c.args.node) c.args.self.now.nodes_are
