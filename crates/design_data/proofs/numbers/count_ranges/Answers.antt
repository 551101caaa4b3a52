use Rattle.std.proofs.Common.{◌∙◌, ℕ}
use Rattle.design_data.specs.declared.infos.BinInfo.{BinInfo}
use Rattle.design_data.specs.declared.infos.ItemInfo.{ItemInfo}
use Rattle.design_data.specs.Bins.{total}
use Rattle.design_data.specs.Limits.{ranges_of}
use Rattle.design_data.proofs.Sums.{groups_sum_more}
use Rattle.design_data.proofs.numbers.count_ranges.Goals as goal

abbrev own : ItemInfo → ℕ
own item = total (λ (bin : BinInfo). ranges_of bin.rule) item.bins

pub loop-group-preserved : goal.loop-group-preserved
loop-group-preserved c = c.saturating_add-sum.ensures ∙ groups_sum_more own c.loop-group.group c.loop-group.sum c.ranges_of_group.result c.args.instances.now c.args.groups.now c.loop-group-test.true c.loop-group.invariant c.ranges_of_group.ensures
