use Rattle.std.proofs.Common.{arith, ◌+◌, ◌-◌, ◌*◌, ◌≡◌, ℕ, ap, drop, map, ◌∙◌}
use Rattle.cov_base.specs.Sets.{written, set_of}
use Rattle.bin_spec.specs.Parts.{part, places}
use Rattle.value_bins.proofs.Taking.{sets_step, sets_end, rest_step}
use Rattle.value_bins.proofs.arrays.sets_of.Goals as goal

pub loop-bin-preserved : goal.loop-bin-preserved
loop-bin-preserved c = record {
  sets = sets_step (written c.args.ranges.now) c.args.n c.loop-bin.bin c.max-share.result c.count_of-total.result c.loop-bin.sets.items c.push.new.self.items c.loop-bin.rest.items c.in_ok-set.set c.count_of-total.ensures c.max-share.ensures c.loop-bin-test.true c.loop-bin.invariant.rest c.in_ok-set.ensures.set c.in_ok-push.ensures.items c.loop-bin.invariant.sets;
  rest = rest_step (written c.args.ranges.now) c.loop-bin.rest.items c.next_set.new.rest.items c.loop-bin.bin c.max-share.result c.loop-bin.invariant.rest c.in_ok-set.ensures.left;
}

pub returns : goal.returns
returns c =
    let last : c.loop-bin.bin ≡ c.args.n - 1 = omega arith in
    let whole : (c.args.n - 1) + 1 ≡ c.args.n = omega (arith, c.requires) in
    let before = c.loop-bin.invariant.sets ∙ ap (λ (k : ℕ). map set_of (map (part (written c.args.ranges.now) c.args.n) (places k))) last in
    let left = c.loop-bin.invariant.rest ∙ ap (λ (k : ℕ). drop (k * c.max-share.result) (written c.args.ranges.now)) last in
    sets_end (written c.args.ranges.now) c.args.n (c.args.n - 1) c.max-share.result c.count_of-total.result c.loop-bin.sets.items c.push-2.new.self.items c.loop-bin.rest.items c.in_ok-set-2.set c.count_of-total.ensures c.max-share.ensures whole left c.in_ok-set-2.ensures.set c.in_ok-push-2.ensures.items before
