use Rattle.std.proofs.Common.{arith}
use Rattle.wildcard_bins.proofs.Places.{ranges_init, ranges_movable, ranges_step, ranges_end}
use Rattle.wildcard_bins.proofs.pattern.Pattern.ranges.Goals as goal

pub loop-place-init : goal.loop-place-init
loop-place-init c = ranges_init c.args.self.now c.args.first c.power_of_two.result _ c.lowest-low.result c.plus.result c.in_ok-ranges.ranges.items c.lowest-low.ensures c.power_of_two.ensures c.plus.ensures c.in_ok-ranges.ensures.items

pub halves_of-requires : goal.halves_of-requires
halves_of-requires c = ranges_movable c.args.self.now c.args.first c.loop-place.place c.power_of_two-in-loop-place.result c.loop-place.ranges.items c.as_slice.result.now c.requires c.loop-place.auto.place (omega (arith, c.loop-place-test.true, c.get-width.ensures.value)) c.get-width.ensures.range.1 c.power_of_two-in-loop-place.ensures c.as_slice.ensures.value c.loop-place.invariant

pub loop-place-preserved : goal.loop-place-preserved
loop-place-preserved c = ranges_step c.args.self.now c.args.first c.loop-place.place c.power_of_two-in-loop-place.result _ c.has_half-lower.result c.has_half-upper.result c.loop-place.ranges.items c.as_slice.result.now c.in_ok-ranges-2.ranges.items c.loop-place.auto.place c.power_of_two-in-loop-place.ensures c.has_half-lower.ensures c.has_half-upper.ensures c.as_slice.ensures.value c.loop-place.invariant c.in_ok-ranges-2.ensures

pub returns : goal.returns
returns c = ranges_end c.args.self.now c.args.first c.loop-place.place c.loop-place.ranges.items c.get-width.ensures.range.0 c.requires (omega (arith, c.loop-place-test.false, c.get-width.ensures.value)) (omega (arith, c.loop-place.auto.place-end, c.get-width.ensures.value, c.requires.within)) c.loop-place.invariant
