use Rattle.std.proofs.Common.{arith}
use Rattle.wildcard_bins.specs.Patterns.{agrees}
use Rattle.wildcard_counts.proofs.Within.{set_begin, set_step, set_room, set_end}
use Rattle.wildcard_counts.proofs.counts.count_in.Goals as goal

pub loop-interval-init : goal.loop-interval-init
loop-interval-init c = record {
  count = set_begin (agrees c.args.pattern.now) c.args.set.now;
  room = omega arith;
}

pub loop-interval-preserved : goal.loop-interval-preserved
loop-interval-preserved c = record {
  count = set_step (agrees c.args.pattern.now) c.intervals-interval-items.result.now c.args.set.now c.loop-interval.interval-index c.interval-item.result c.loop-interval.count c.count_within-count.result c.intervals-interval-items.ensures.value c.loop-interval-test.true c.interval-item.is c.loop-interval.invariant.count c.count_within-count.ensures.count;
  room = set_room c.loop-interval.count c.loop-interval.interval-index c.count_within-count.result c.loop-interval.invariant.room c.count_within-count.ensures.bound;
}

pub returns : goal.returns
returns c = set_end (agrees c.args.pattern.now) c.intervals-interval-items.result.now c.args.set.now c.loop-interval.interval-index c.loop-interval.count c.intervals-interval-items.ensures.value c.loop-interval-test.false c.loop-interval.invariant.count
