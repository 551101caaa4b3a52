use Rattle.std.proofs.Common.{arith, ◌<◌, ◌^◌, ◌∙◌}
use Rattle.wildcard_counts.proofs.Within.{within_is, below_few}
use Rattle.wildcard_counts.proofs.counts.count_within.Goals as goal

pub returns-clause-count : goal.returns-clause-count
returns-clause-count c =
    let free : c.args.pattern.now.free < 2 ^ 64 = omega arith in
    c.saturating_sub.ensures ∙ within_is c.args.pattern.now c.args.low c.args.high c.distance-from.result c.distance-to.result c.count_below-2.result c.count_below.result c.get-width.ensures.range.0 c.get-width.ensures.range.1 free c.distance-from.ensures.is c.distance-to.ensures.is c.count_below-2.ensures c.count_below.ensures

pub returns-clause-bound : goal.returns-clause-bound
returns-clause-bound c = below_few c.args.pattern.now c.distance-to.result c.count_below-2.result c.count_below.result c.saturating_sub.result c.get-width.ensures.range.1 c.count_below.ensures c.distance-to.ensures.most c.saturating_sub.ensures
