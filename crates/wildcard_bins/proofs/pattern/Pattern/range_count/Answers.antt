use Rattle.std.proofs.Common.{arith}
use Rattle.std.proofs.lemmas.Nat.Bits.{shr_and_one}
use Rattle.wildcard_bins.proofs.Places.{count_step, bound_step, count_fits, count_end}
use Rattle.wildcard_bins.proofs.pattern.Pattern.range_count.Goals as goal

pub overflow_mul-count : goal.overflow_mul-count
overflow_mul-count c =
    let fits = count_fits c.args.self.now c.args.first c.loop-place.place c.loop-place.count _ c.requires c.loop-place.auto.place (omega (arith, c.loop-place-test.true, c.get-width.ensures.value)) c.get-width.ensures.range.1 c.loop-place.invariant.bound (shr_and_one c.args.self.now.free c.loop-place.place) in
    omega (arith, fits)

pub loop-place-preserved : goal.loop-place-preserved
loop-place-preserved c = record {
  count = count_step c.args.self.now c.args.first c.loop-place.place c.loop-place.count _ c.loop-place.auto.place c.loop-place.invariant.count (shr_and_one c.args.self.now.free c.loop-place.place);
  bound = bound_step c.args.self.now c.args.first c.loop-place.place c.loop-place.count _ c.requires c.loop-place.auto.place (omega (arith, c.loop-place-test.true, c.get-width.ensures.value)) c.loop-place.invariant.bound (shr_and_one c.args.self.now.free c.loop-place.place);
}

pub returns : goal.returns
returns c = count_end c.args.self.now c.args.first c.loop-place.place c.loop-place.count c.get-width.ensures.range.0 c.requires (omega (arith, c.loop-place-test.false, c.get-width.ensures.value)) (omega (arith, c.loop-place.auto.place-end, c.get-width.ensures.value, c.requires.within)) c.loop-place.invariant.count
