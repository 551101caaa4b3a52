use Rattle.design_data.specs.Crosses.{picks}
use Rattle.elab_crosses.proofs.left.add_picked.Goals as goal

pub returns : goal.returns
returns c meant marks = c.unite.ensures.marks c.args.sizes.now meant (λ product. picks product c.args.rule.now) marks c.in_ok-picked.ensures
