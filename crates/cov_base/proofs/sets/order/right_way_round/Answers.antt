use Rattle.std.proofs.Common.{arith}
use Rattle.std.proofs.lemmas.Int.{ints}
use Rattle.std.proofs.lemmas.List.Elements.{All-push}
use Rattle.cov_base.specs.Intervals.{IsRange}
use Rattle.cov_base.proofs.Steps.{drop_at}
use Rattle.cov_base.proofs.Sorts.{kept_step, left_out}
use Rattle.cov_base.proofs.sets.order.right_way_round.Goals as goal
use Rattle.cov_base.proofs.sets.order.right_way_round.Goals.{then-get+in_ok-push, else-get}

pub loop-range-preserved : goal.loop-range-preserved
loop-range-preserved c =
    let at = drop_at c.args.ranges.now c.loop-range.range-index c.range-item.result (omega arith) c.range-item.is in
    elim c.if-get.branch [
      | then-get+in_ok-push w ↦
          let range : IsRange c.range-item.result = (omega (arith, ints, c.get.ensures.range), omega (arith, ints, c.get.ensures.value, c.get-in-loop-range.ensures.value, w.if-get.true), omega (arith, ints, c.get-in-loop-range.ensures.range)) in
          rw (w.kept-is, w.in_ok-push.ensures.items) (record {
            ranges = All-push IsRange _ _ c.loop-range.invariant.ranges range;
            same = λ v. kept_step v _ _ _ _ _ at (c.loop-range.invariant.same v);
          })
      | else-get w ↦
          rw w.kept-is (record {
            ranges = c.loop-range.invariant.ranges;
            same = λ v. left_out v _ _ _ _ _ at (omega (arith, ints, c.get.ensures.value, c.get-in-loop-range.ensures.value, w.if-get.false)) (c.loop-range.invariant.same v);
          })
    ]
