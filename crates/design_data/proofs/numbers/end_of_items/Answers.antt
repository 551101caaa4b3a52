use Rattle.std.proofs.Common.{arith, sym, ap, ◌∙◌, List, length}
use Rattle.design_data.specs.declared.infos.BinInfo.{BinInfo}
use Rattle.design_data.proofs.Sums.{item_more, item_not}
use Rattle.design_data.proofs.numbers.end_of_items.Goals as goal

pub returns-then-own-end-clause-ends : goal.returns-then-own-end-clause-ends
returns-then-own-end-clause-ends c = item_not c.args.first c.loop-item.end c.loop-item.item-index c.args.items.now c.item-item.result c.loop-item-test.true c.item-item.is (λ e. c.if-own-end.true (c.from-own.ensures ∙ e)) c.loop-item.invariant.ends

pub loop-item-preserved : goal.loop-item-preserved
loop-item-preserved c =
    let more = item_more c.args.first c.loop-item.end c.loop-item.item-index c.args.items.now c.item-item.result c.loop-item-test.true c.item-item.is (sym c.from-own.ensures ∙ c.if-own-end.false) c.loop-item.invariant.ends in
    let long = ap (λ (bins : List BinInfo). length bins) c.as_slice.ensures in
    let end = more.1 in
    record { ends = (more.0, omega (arith, end, long, c.if-own-end.false)); few = omega arith }
