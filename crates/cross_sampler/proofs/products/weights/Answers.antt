use Rattle.cross_sampler.proofs.Radix.{weight_more}
use Rattle.cross_sampler.proofs.products.weights.Goals as goal

pub loop-size-preserved : goal.loop-size-preserved
loop-size-preserved c =
    let more = weight_more c.args.sizes.now c.loop-size.size-index c.loop-size.left c.loop-size.weights c.push.new.self c.loop-size-test.true (c.requires.some c.loop-size.size-index 0 c.loop-size-test.true) c.loop-size.invariant.left c.loop-size.invariant.weights c.in_ok-push.ensures in
    record { left = more.0; weights = more.1 }
