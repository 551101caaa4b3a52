use Rattle.std.proofs.Common.{arith}
use Rattle.trans_found.proofs.Ahead.{words_next}
use Rattle.trans_found.proofs.AloneLemmas.{take_next}
use Rattle.trans_found.proofs.alone.only_list.Goals as goal

pub loop-item-preserved : goal.loop-item-preserved
loop-item-preserved c =
    words_next c.args.items.now c.loop-item.item-index c.item-item.result c.loop-item.list.items c.push.new.self.items c.in-Some.number
    (take_next c.args.items.now c.loop-item.item-index c.item-item.result (omega arith) c.item-item.is) c.in-Some.ensures c.in_ok-push.ensures.items c.loop-item.invariant
