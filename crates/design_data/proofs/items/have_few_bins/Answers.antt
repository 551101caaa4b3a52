use Rattle.std.proofs.Common.{refl, arith, ap, ◌≤◌, List, length}
use Rattle.cov_ground.specs.Limits.{most_bins}
use Rattle.design_data.specs.declared.infos.BinInfo.{BinInfo}
use Rattle.design_data.proofs.Answering.{yes}
use Rattle.design_data.proofs.Parts.{few_more, few_done}
use Rattle.design_data.proofs.items.have_few_bins.Goals as goal

pub loop-item-preserved : goal.loop-item-preserved
loop-item-preserved c =
    let few : length c.item-item.result.bins ≤ most_bins = omega (arith, ap (λ (bins : List BinInfo). length bins) c.as_slice.ensures, c.if-as_slice-gt-MOST_BINS.false) in
    few_more c.args.items.now c.loop-item.item-index c.item-item.result c.loop-item-test.true c.item-item.is c.loop-item.invariant few

pub returns : goal.returns
returns c = yes _ refl (few_done c.args.items.now c.loop-item.item-index c.loop-item-test.false c.loop-item.invariant)
