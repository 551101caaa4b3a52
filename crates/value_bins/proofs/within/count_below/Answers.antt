use Rattle.std.proofs.Common.{◌+◌, ◌/◌, arith}
use Rattle.std.proofs.lemmas.Int.{ints}
use Rattle.value_bins.proofs.Clipping.{end_below}
use Rattle.value_bins.proofs.within.count_below.Goals as goal

pub loop-size-preserved-then-get : goal.loop-size-preserved-then-get
loop-size-preserved-then-get c = record {
  within = omega (arith, c.loop-size.invariant.within);
  below = end_below c.args.low c.args.intervals.now (c.loop-size.from + c.loop-size.size / 2) _ c.index-intervals-from.result c.requires (omega (arith, c.loop-size.invariant.within)) (omega (arith, ints, c.if-get.true, c.get.ensures.value, c.get-in-loop-size.ensures.value)) (omega arith);
}
