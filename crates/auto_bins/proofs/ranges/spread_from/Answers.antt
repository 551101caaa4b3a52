use Rattle.std.proofs.Common.{ℕ, map, arith, ◌∙◌, ◌/◌, refl, ◌+◌, ◌-◌, ◌≡◌, ap}
use Rattle.std.proofs.lemmas.Int.{ints}
use Rattle.bin_spec.specs.Parts.{part, places}
use Rattle.cov_base.specs.Sets.{count_from}
use Rattle.auto_bins.proofs.Counting.{share_bound, spread_step, spread_end, in_order_next}
use Rattle.auto_bins.proofs.ranges.spread_from.Goals as goal

pub range_at-requires-clause-high : goal.range_at-requires-clause-high
range_at-requires-clause-high c =
    let within = share_bound c.args.count c.args.bins (c.args.count / c.args.bins) c.loop-bin.bin refl (omega arith) in
    omega (arith, ints, within)

pub loop-bin-preserved : goal.loop-bin-preserved
loop-bin-preserved c = record {
  spread = spread_step c.args.low c.args.count c.args.bins (c.args.count / c.args.bins) c.loop-bin.bin c.loop-bin.ranges.items c.push.new.self.items c.range_at.result c.requires.some c.requires.most refl c.loop-bin-test.true c.range_at.ensures.low_end c.range_at.ensures.high_end (c.in_ok-push.ensures.items) c.loop-bin.invariant.spread;
  order = in_order_next _ _ _ c.in_ok-push.ensures.items c.loop-bin.invariant.order c.range_at.ensures.order;
}

pub range_at-requires-2-clause-high : goal.range_at-requires-2-clause-high
range_at-requires-2-clause-high c =
    let within = share_bound c.args.count c.args.bins (c.args.count / c.args.bins) (c.args.bins - 1) refl (omega arith) in
    omega (arith, ints, within)

pub returns-clause-order : goal.returns-clause-order
returns-clause-order c = in_order_next _ _ _ c.in_ok-push-2.ensures.items c.loop-bin.invariant.order c.range_at-2.ensures.order

pub returns-clause-spread : goal.returns-clause-spread
returns-clause-spread c =
    let last : c.loop-bin.bin ≡ c.args.bins - 1 = omega arith in
    let whole : (c.args.bins - 1) + 1 ≡ c.args.bins = omega arith in
    let before = c.loop-bin.invariant.spread ∙ ap (λ (n : ℕ). map (part (count_from c.args.low c.args.count) c.args.bins) (places n)) last in
    spread_end c.args.low c.args.count c.args.bins (c.args.count / c.args.bins) (c.args.bins - 1) c.loop-bin.ranges.items c.push-2.new.self.items c.range_at-2.result c.requires.some c.requires.most refl whole c.range_at-2.ensures.low_end c.range_at-2.ensures.high_end c.in_ok-push-2.ensures.items before
