use Rattle.std.proofs.Common.{arith}
use Rattle.cross_sampler.proofs.Bins.{push_more}
use Rattle.cross_sampler.proofs.building.push_bins.Goals as goal

pub loop-bin-preserved : goal.loop-bin-preserved
loop-bin-preserved c = push_more c.args.bins.now c.args.product.now c.loop-bin.bin c.index-bins-bin.result c.args.out.now.items c.loop-bin.out.items c.push_if.new.out.items c.has_product-is_own.result (omega (arith, c.loop-bin-test.true, c.requires.within))
    c.index-bins-bin.is c.has_product-is_own.ensures c.loop-bin.invariant c.in_ok-push_if.ensures
