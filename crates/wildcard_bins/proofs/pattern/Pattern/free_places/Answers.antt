use Rattle.std.proofs.Common.{arith, ap, min, ◌∙◌}
use Rattle.wildcard_bins.proofs.Agreement.{lowest_fixed}
use Rattle.wildcard_bins.proofs.pattern.Pattern.free_places.Goals as goal

pub returns : goal.returns
returns c = lowest_fixed c.args.self.now c.trailing_ones-ones.result c.min.result c.get-width.ensures.range.1 (omega arith) c.trailing_ones-ones.ensures (c.min.ensures ∙ ap (min c.trailing_ones-ones.result) c.get-width.ensures.value)
