use Rattle.std.proofs.Common.{ap, ◌∙◌}
use Rattle.design_data.proofs.Sums.{cut, sum_more}
use Rattle.elab_values.specs.declared.elements.Listed.{Listed}
use Rattle.elab_bins.specs.Wildcards.{element_count}
use Rattle.elab_bins.proofs.wildcards.values_count.Goals as goal

pub loop-listed-preserved : goal.loop-listed-preserved
loop-listed-preserved c =
    let x = c.listed-item.result in
    let own_is = c.cut.ensures ∙ (ap cut c.in_ok-element_count.ensures ∙ ap (λ (y : Listed). cut (element_count c.args.domain.now y)) c.listed-item.is) in
    c.saturating_add-sum.ensures ∙ sum_more (element_count c.args.domain.now) c.args.elements.now c.loop-listed.listed-index x c.loop-listed.sum c.cut.result c.loop-listed-test.true c.loop-listed.invariant own_is
