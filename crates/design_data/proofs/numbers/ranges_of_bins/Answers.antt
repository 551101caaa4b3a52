use Rattle.std.proofs.Common.{ap, ◌∙◌, ◌≡◌, ℕ}
use Rattle.design_data.specs.declared.infos.BinInfo.{BinInfo}
use Rattle.design_data.specs.Limits.{ranges_of}
use Rattle.design_data.proofs.Sums.{cut, sum_more}
use Rattle.design_data.proofs.numbers.ranges_of_bins.Goals as goal

abbrev own : BinInfo → ℕ
own bin = ranges_of bin.rule

pub loop-bin-preserved : goal.loop-bin-preserved
loop-bin-preserved c =
    let x = c.bin-item.result in
    let own_is : c.ranges_of.result ≡ cut (own x) = c.ranges_of.ensures in
    c.saturating_add-sum.ensures ∙ sum_more own c.args.bins.now c.loop-bin.bin-index x c.loop-bin.sum c.ranges_of.result c.loop-bin-test.true c.loop-bin.invariant (own_is ∙ ap (λ (y : BinInfo). cut (own y)) c.bin-item.is)
