use Rattle.store_sums.proofs.Children.{child_step}
use Rattle.store_sums.proofs.branches.below_of.Goals as goal

pub loop-place-preserved : goal.loop-place-preserved
loop-place-preserved c = child_step c.args.nodes.now c.loop-place.place c.index-nodes-place.result _ _ c.requires.parents c.loop-place-test.true c.index-nodes-place.is c.loop-place.invariant c.in_ok-add_child.ensures
