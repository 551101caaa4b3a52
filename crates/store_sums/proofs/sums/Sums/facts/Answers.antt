use Rattle.std.proofs.Common.{◌∙◌, ap, List}
use Rattle.ucis_model.specs.declared.node.Node.{Node}
use Rattle.ucis_model.specs.Paths.{node_at}
use Rattle.store_sums.specs.Branches.{facts_of}
use Rattle.store_sums.proofs.sums.Sums.facts.Goals as goal

pub returns : goal.returns
returns c = c.facts.ensures ∙ ap (λ (ns : List Node). facts_of (node_at ns c.args.node)) c.args.self.now.nodes_are
