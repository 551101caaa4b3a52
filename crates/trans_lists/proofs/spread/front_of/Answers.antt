use Rattle.std.proofs.Common.{arith}
use Rattle.trans_found.proofs.Ahead.{front_none, front_more}
use Rattle.trans_lists.proofs.spread.front_of.Goals as goal

pub loop-size-init : goal.loop-size-init
loop-size-init c = front_none c.args.items.now c.new-once.result.items c.new-once.ensures.items

pub loop-size-preserved : goal.loop-size-preserved
loop-size-preserved c =
    front_more c.args.items.now c.loop-size.size c.index-items-size.result c.loop-size.once.items c.add_once.new.items.items c.ends-low.result.0 c.ends-low.result.1
    (omega arith) c.index-items-size.is c.ends-low.ensures.all (omega (arith, c.if-low-high.false)) c.in_ok-add_once.ensures c.loop-size.invariant
