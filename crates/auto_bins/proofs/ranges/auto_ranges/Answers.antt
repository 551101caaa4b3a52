use Rattle.std.proofs.Common.{ℕ, ap, ◌∙◌, ◌^◌}
use Rattle.auto_bins.proofs.Counting.{automatic_is, ranges_are}
use Rattle.auto_bins.proofs.ranges.auto_ranges.Goals as goal

pub returns-clause-parts : goal.returns-clause-parts
returns-clause-parts c =
    let wide = c.get-width.ensures.value in
    automatic_is c.args.typ.width c.args.typ.signed c.args.max c.min.result _ _ c.in_ok-ranges.ranges.items c.get-width.ensures.range.0 c.lowest_of-low.ensures (c.power_of_two-count.ensures ∙ ap (λ (n : ℕ). 2 ^ n) wide) c.min.ensures c.in_ok-ranges.ensures.spread

pub returns-clause-ranges : goal.returns-clause-ranges
returns-clause-ranges c = ranges_are c.args.typ.width c.args.max c.args.typ.signed c.in_ok-ranges.ranges.items c.in_ok-ranges.ensures.order (returns-clause-parts c)
