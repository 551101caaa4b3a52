use Rattle.std.proofs.Common.{◌∙◌, ap, List}
use Rattle.ucis_model.specs.declared.node.Node.{Node}
use Rattle.ucis_model.specs.Paths.{find_in}
use Rattle.store_sums.proofs.sums.Sums.find.Goals as goal

pub returns : goal.returns
returns c = c.find.ensures ∙ ap (λ (ns : List Node). find_in ns c.args.path.now) c.args.self.now.nodes_are
