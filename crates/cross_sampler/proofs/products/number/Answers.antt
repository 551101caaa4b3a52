use Rattle.std.proofs.Common.{arith}
use Rattle.cross_sampler.proofs.Radix.{number_small, counted_more}
use Rattle.cross_sampler.proofs.products.number.Goals as goal

pub overflow_mul-number : goal.overflow_mul-number
overflow_mul-number c = let s = number_small c.args.sizes.now c.args.product.now c.loop-k.k c.loop-k.number c.requires.product c.loop-k-test.true c.loop-k.invariant in omega (arith, s, c.requires.few)

pub overflow_add-number : goal.overflow_add-number
overflow_add-number c = let s = number_small c.args.sizes.now c.args.product.now c.loop-k.k c.loop-k.number c.requires.product c.loop-k-test.true c.loop-k.invariant in omega (arith, s, c.requires.few)

pub loop-k-preserved : goal.loop-k-preserved
loop-k-preserved c = counted_more c.args.sizes.now c.args.product.now c.loop-k.k c.loop-k.number c.requires.product c.loop-k-test.true c.loop-k.invariant
