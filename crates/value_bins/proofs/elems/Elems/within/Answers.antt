use Rattle.std.proofs.Common.{arith, List, ℤ, ◌++◌, ◌∙◌, ap, filter}
use Rattle.cov_base.specs.Sets.{written, span, is_in}
use Rattle.value_bins.proofs.Clipping.{within_none, within_step}
use Rattle.value_bins.proofs.elems.Elems.within.Goals as goal

pub loop-range-init : goal.loop-range-init
loop-range-init c = within_none (is_in (written c.args.domain.now)) c.new-kept.result.items c.new-kept.ensures.items

pub loop-range-preserved : goal.loop-range-preserved
loop-range-preserved c =
    let r = c.range-item.result in
    let same = ap (λ (ds : List (ℤ × ℤ)). written c.loop-range.kept.items ++ filter (is_in (written ds)) (span (r.0, r.1))) c.intervals.ensures.value in
    within_step (is_in (written c.args.domain.now)) c.as_slice-range-items.result.now c.loop-range.range-index r _ _ (omega arith) c.range-item.is c.loop-range.invariant (c.in_ok-add_within.ensures ∙ same)
