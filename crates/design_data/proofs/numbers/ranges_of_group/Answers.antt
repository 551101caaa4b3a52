use Rattle.std.proofs.Common.{◌∙◌, ℕ}
use Rattle.design_data.specs.declared.infos.BinInfo.{BinInfo}
use Rattle.design_data.specs.declared.infos.ItemInfo.{ItemInfo}
use Rattle.design_data.specs.Bins.{total}
use Rattle.design_data.specs.Limits.{ranges_of}
use Rattle.design_data.proofs.Sums.{group_sum_more}
use Rattle.design_data.proofs.numbers.ranges_of_group.Goals as goal

abbrev own : ItemInfo → ℕ
own item = total (λ (bin : BinInfo). ranges_of bin.rule) item.bins

pub loop-inst-preserved : goal.loop-inst-preserved
loop-inst-preserved c = c.saturating_add-sum.ensures ∙ group_sum_more own c.loop-inst.inst-index c.args.group c.loop-inst.sum c.ranges_in_group.result c.args.instances.now c.inst-item.result c.loop-inst-test.true c.inst-item.is c.loop-inst.invariant c.ranges_in_group.ensures
