use Rattle.std.proofs.Common.{◌≡◌, ◌<◌, ◌∙◌, ap, List, length, get_or, arith}
use Rattle.design_data.specs.declared.infos.BinInfo.{BinInfo}
use Rattle.point_tables.proofs.Keyed.{sets_more}
use Rattle.point_tables.proofs.lookups.sets_of.Goals as goal

pub loop-bin-preserved : goal.loop-bin-preserved
loop-bin-preserved c =
    let bins = c.args.item.now.bins in
    let i = c.loop-bin.bin-index in
    let bin = c.bin-item.result in
    let lt : i < length bins = omega (arith, c.loop-bin-test.true, ap (λ (b : List BinInfo). length b) c.as_slice-bin-items.ensures) in
    let is : bin ≡ get_or bins i bin = c.bin-item.is ∙ ap (λ (b : List BinInfo). get_or b i bin) c.as_slice-bin-items.ensures in
    sets_more bins c.args.least i bin c.loop-bin.sets.items c.add_set.new.sets.items lt is c.loop-bin.invariant (c.in_ok-add_set.ensures c.if-not-branch.false)
