use Rattle.std.proofs.Common.{arith, ap, ◌∙◌, ◌≡◌, ℕ, List, length}
use Rattle.design_data.specs.declared.infos.ItemInfo.{ItemInfo}
use Rattle.design_data.specs.declared.infos.InstInfo.{InstInfo}
use Rattle.design_data.proofs.Sums.{cut, sum_more}
use Rattle.design_data.proofs.numbers.count_items.Goals as goal

abbrev own : InstInfo → ℕ
own inst = length inst.items

pub loop-inst-preserved : goal.loop-inst-preserved
loop-inst-preserved c =
    let x = c.inst-item.result in
    let own_is : (length c.as_slice.result.now) ≡ cut (own x) = omega (arith, ap (λ (l : List ItemInfo). length l) c.as_slice.ensures) in
    c.saturating_add-sum.ensures ∙ sum_more own c.args.instances.now c.loop-inst.inst-index x c.loop-inst.sum (length c.as_slice.result.now) c.loop-inst-test.true c.loop-inst.invariant (own_is ∙ ap (λ (y : InstInfo). cut (own y)) c.inst-item.is)
