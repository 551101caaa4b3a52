use Rattle.store_sums.proofs.Children.{bins_more}
use Rattle.store_sums.proofs.branches.bins_of.Goals as goal

pub loop-place-preserved : goal.loop-place-preserved
loop-place-preserved c = bins_more c.args.nodes.now c.loop-place.place c.index-nodes-place.result c.loop-place.bins.items c.push_bin.new.bins.items c.loop-place-test.true c.index-nodes-place.is c.loop-place.invariant c.in_ok-push_bin.ensures
