use Rattle.std.proofs.Common.{ap, ◌∙◌, ◌≡◌, ℕ, List}
use Rattle.design_data.specs.declared.infos.BinInfo.{BinInfo}
use Rattle.design_data.specs.declared.infos.ItemInfo.{ItemInfo}
use Rattle.design_data.specs.Bins.{total}
use Rattle.design_data.specs.Limits.{ranges_of}
use Rattle.design_data.proofs.Sums.{cut, sum_more}
use Rattle.design_data.proofs.numbers.ranges_of_all_items.Goals as goal

abbrev own : ItemInfo → ℕ
own item = total (λ (bin : BinInfo). ranges_of bin.rule) item.bins

pub loop-item-preserved : goal.loop-item-preserved
loop-item-preserved c =
    let x = c.item-item.result in
    let own_is : c.ranges_of_bins.result ≡ cut (own x) = c.ranges_of_bins.ensures ∙ ap (λ (l : List BinInfo). cut (total (λ (bin : BinInfo). ranges_of bin.rule) l)) c.as_slice.ensures in
    c.saturating_add-sum.ensures ∙ sum_more own c.args.items.now c.loop-item.item-index x c.loop-item.sum c.ranges_of_bins.result c.loop-item-test.true c.loop-item.invariant (own_is ∙ ap (λ (y : ItemInfo). cut (own y)) c.item-item.is)
