use Rattle.std.proofs.Common.{arith, subst, ◌+ℤ◌, pos}
use Rattle.cov_base.specs.Sets.{least, greatest, IsNormalFrom, EndsBy}
use Rattle.cov_base.proofs.Steps.{drop_at}
use Rattle.cov_base.proofs.Counts.{room, room_next, starts_step, total_step}
use Rattle.cov_base.proofs.sets.counts.count.Goals as goal

pub overflow_add-total : goal.overflow_add-total
overflow_add-total c =
    let at = drop_at c.args.intervals.now c.loop-range.range-index c.range-item.result (omega arith) c.range-item.is in
    let from = subst (IsNormalFrom (least +ℤ pos c.loop-range.total)) at c.loop-range.invariant.room in
    let to = subst (EndsBy greatest) at c.loop-range.invariant.ends in
    omega (arith, c.size_of-total.ensures.size, room c.loop-range.total c.range-item.result from.0 from.1 to.0)

pub loop-range-preserved : goal.loop-range-preserved
loop-range-preserved c =
    let at = drop_at c.args.intervals.now c.loop-range.range-index c.range-item.result (omega arith) c.range-item.is in
    let from = subst (IsNormalFrom (least +ℤ pos c.loop-range.total)) at c.loop-range.invariant.room in
    let to = subst (EndsBy greatest) at c.loop-range.invariant.ends in
    rw c.size_of-total.ensures.size (record {
      starts = starts_step _ _ _ _ _ _ _ at c.in_ok-push.ensures.items c.loop-range.invariant.starts;
      total = total_step _ _ _ _ _ at c.loop-range.invariant.total;
      room = room_next _ c.range-item.result _ from;
      ends = to.1;
    })
