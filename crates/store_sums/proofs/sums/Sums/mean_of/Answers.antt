use Rattle.std.proofs.Common.{◌∙◌, ap, arith}
use Rattle.cov_history.specs.Coverage as cover
use Rattle.store_sums.specs.Now.{nodes_now, count_now}
use Rattle.store_sums.proofs.Merging.{merged_more}
use Rattle.store_sums.proofs.sums.Sums.mean_of.Goals as goal

pub loop-list-preserved : goal.loop-list-preserved
loop-list-preserved c =
    let s = c.args.self.now in
    record {
      sums = merged_more (nodes_now s) (count_now s) c.args.lists.now c.loop-list.list-index c.type_weight.result c.in_ok-part.part c.list-item.result c.loop-list.mean c.add.new.self c.loop-list-test.true c.list-item.is
          (c.type_weight.ensures ∙ ap (cover.type_weight (nodes_now s)) c.deref-in-loop-list.ensures.value)
          (c.in_ok-part.ensures ∙ ap (cover.merged_item (nodes_now s) (count_now s)) c.deref.ensures.value)
          c.loop-list.invariant.sums c.add.ensures.sums;
      pairs = omega (arith, c.add.ensures.pairs, c.loop-list.invariant.pairs);
    }
