use Rattle.std.proofs.Common.{ap, ◌∙◌, ◌≡◌, ℕ, List, length}
use Rattle.trans_seq.specs.declared.seq.Seq.{Seq}
use Rattle.trans_seq.specs.declared.seq.Item.{Item}
use Rattle.design_data.specs.Bins.{total}
use Rattle.design_data.proofs.Sums.{cut, sum_more}
use Rattle.design_data.proofs.numbers.ranges_of_seqs.Goals as goal

abbrev own : Seq → ℕ
own seq = total (λ (item : Item). length item.set) seq.items

pub loop-seq-preserved : goal.loop-seq-preserved
loop-seq-preserved c =
    let x = c.seq-item.result in
    let own_is : c.ranges_of_items.result ≡ cut (own x) = c.ranges_of_items.ensures ∙ ap (λ (l : List Item). cut (total (λ (item : Item). length item.set) l)) c.as_slice.ensures in
    c.saturating_add-sum.ensures ∙ sum_more own c.args.seqs.now c.loop-seq.seq-index x c.loop-seq.sum c.ranges_of_items.result c.loop-seq-test.true c.loop-seq.invariant (own_is ∙ ap (λ (y : Seq). cut (own y)) c.seq-item.is)
