use Rattle.std.proofs.Common.{arith}
use Rattle.std.proofs.lemmas.Int.{ints}
use Rattle.value_bins.proofs.Written.{drop_at}
use Rattle.value_bins.proofs.Clipping.{in_order_behind, clip_step, clip_stop, clip_end}
use Rattle.value_bins.proofs.within.add_clips.Goals as goal

pub returns-then-get : goal.returns-then-get
returns-then-get c =
    let at = drop_at c.args.intervals.now c.loop-interval.interval-index c.interval-item.result (omega arith) c.interval-item.is in
    clip_stop (c.args.low, c.args.high) _ _ _ c.interval-item.result _ (in_order_behind c.args.intervals.now c.loop-interval.interval-index c.requires) at (omega (arith, ints, c.if-get.true, c.get.ensures.value, c.get-in-loop-interval.ensures.value)) c.loop-interval.invariant

pub loop-interval-preserved : goal.loop-interval-preserved
loop-interval-preserved c =
    let at = drop_at c.args.intervals.now c.loop-interval.interval-index c.interval-item.result (omega arith) c.interval-item.is in
    clip_step (c.args.low, c.args.high) _ _ _ _ c.interval-item.result (c.greater.result, c.lesser.result) _ at c.in_ok-push.ensures.items c.greater.ensures c.lesser.ensures c.loop-interval.invariant

pub returns : goal.returns
returns c = clip_end (c.args.low, c.args.high) _ c.args.intervals.now c.loop-interval.interval-index _ c.loop-interval-test.false c.loop-interval.invariant
