use Rattle.std.proofs.Common.{refl, ap, ℕ, ◌^◌, ◌∙◌, arith, ◌+◌}
use Rattle.std.proofs.lemmas.Nat.Bits.{shr_and_one}
use Rattle.wildcard_counts.proofs.Counted.{all_begin, below_begin, all_step, below_step, whole_few, below_few, bound_all, bound_below}
use Rattle.wildcard_counts.proofs.below.count_below.Goals as goal

pub loop-place-init : goal.loop-place-init
loop-place-init c = record {
  all = all_begin c.args.pattern.now 1 refl;
  below = below_begin c.args.pattern.now c.args.bound 0 refl;
  most = omega arith;
  few = omega arith;
}

pub loop-place-preserved : goal.loop-place-preserved
loop-place-preserved c =
    let all = all_step c.args.pattern.now c.loop-place.place c.loop-place.met.all c.next-met.result.all c.loop-place.invariant.all c.next-met.ensures.all in
    let below = below_step c.args.pattern.now c.loop-place.place c.args.bound _ c.loop-place.met.all c.loop-place.met.below c.next-met.result.below (shr_and_one c.args.bound c.loop-place.place) c.loop-place.invariant.all c.loop-place.invariant.below c.next-met.ensures.below in
    record {
      all = all;
      below = below;
      most = whole_few c.args.pattern.now (c.loop-place.place + 1) c.next-met.result.all all;
      few = below_few c.args.pattern.now (c.loop-place.place + 1) c.next-met.result.below c.args.bound below;
    }

pub returns-then-bound-power_of_two : goal.returns-then-bound-power_of_two
returns-then-bound-power_of_two c = bound_all c.args.pattern.now c.loop-place.place c.args.bound c.loop-place.met.all c.power_of_two.result (omega (arith, c.loop-place-test.false, c.get-width.ensures.value)) (omega (arith, c.loop-place.auto.place-end, c.get-width.ensures.value)) (c.power_of_two.ensures ∙ ap (λ (n : ℕ). 2 ^ n) c.get-width.ensures.value) c.if-bound-power_of_two.true c.loop-place.invariant.all

pub returns : goal.returns
returns c =
    let all = c.power_of_two.ensures ∙ ap (λ (n : ℕ). 2 ^ n) c.get-width.ensures.value in
    bound_below c.args.pattern.now c.loop-place.place c.args.bound c.power_of_two.result c.loop-place.met.below (omega (arith, c.loop-place-test.false, c.get-width.ensures.value)) (omega (arith, c.loop-place.auto.place-end, c.get-width.ensures.value)) (omega (arith, c.requires, all)) c.if-bound-power_of_two.false all c.loop-place.invariant.below
