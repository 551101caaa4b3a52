use Rattle.std.proofs.Common.{◌∙◌, ap, List, ℤ, Bool}
use Rattle.std.specs.List.{list_any}
use mathlib.Core.Bool.{◌||◌}
use Rattle.cov_base.specs.Sets.{written, is_in}
use Rattle.wildcard_bins.specs.Patterns.{agrees}
use Rattle.point_tables.proofs.Keyed.{none_listed}
use Rattle.point_tables.proofs.patterns.set_of_patterns.Goals as goal

pub returns : goal.returns
returns c = λ v.
    c.in_ok-set.ensures.numbers v ∙ ap (λ (rs : List (ℤ × ℤ)). is_in (written rs) v) c.as_slice.ensures.value
    ∙ c.in_ok-add_patterns.ensures c.if-not-branch.false v
    ∙ ap (λ (b : Bool). b || list_any (λ pattern. agrees pattern v) c.args.patterns.now) (none_listed c.new-ranges.result.items v c.new-ranges.ensures.items)
