use Rattle.std.proofs.Common.{◌≡◌, ℤ, take}
use Rattle.std.specs.List.{list_any}
use mathlib.Core.Bool.{◌||◌}
use Rattle.cov_base.specs.Sets.{written, is_in}
use Rattle.wildcard_bins.specs.Patterns.{agrees}
use Rattle.point_tables.proofs.patterns.add_patterns.Given as goal

abbrev pub invariant-loop-pattern : goal.invariant-loop-pattern
invariant-loop-pattern l = (v : ℤ) → is_in (written l.ranges.items) v ≡ (is_in (written l.initial.ranges.items) v || list_any (λ pattern. agrees pattern v) (take l.pattern-index l.patterns))
