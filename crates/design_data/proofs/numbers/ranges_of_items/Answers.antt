use Rattle.std.proofs.Common.{arith, ap, ◌∙◌, ◌≡◌, ℕ, List, length}
use Rattle.trans_seq.specs.declared.seq.Item.{Item}
use Rattle.std.specs.Prelude.{ℤ}
use Rattle.design_data.proofs.Sums.{cut, sum_more}
use Rattle.design_data.proofs.numbers.ranges_of_items.Goals as goal

abbrev own : Item → ℕ
own item = length item.set

pub loop-item-preserved : goal.loop-item-preserved
loop-item-preserved c =
    let x = c.item-item.result in
    let own_is : (length c.intervals.result.now) ≡ cut (own x) = omega (arith, ap (λ (l : List (ℤ × ℤ)). length l) c.intervals.ensures.value) in
    c.saturating_add-sum.ensures ∙ sum_more own c.args.items.now c.loop-item.item-index x c.loop-item.sum (length c.intervals.result.now) c.loop-item-test.true c.loop-item.invariant (own_is ∙ ap (λ (y : Item). cut (own y)) c.item-item.is)
