use Rattle.std.proofs.Common.{◌≡◌, ◌-◌}
use Rattle.bin_spec.specs.Types.{lowest}
use Rattle.wildcard_bins.specs.Halves.{ranges_above}
use Rattle.wildcard_bins.proofs.pattern.Pattern.ranges.Given as goal

abbrev pub invariant-loop-place : goal.invariant-loop-place
invariant-loop-place l = l.ranges.items ≡ ranges_above l.self l.first (lowest l.self.width l.self.signed) (l.place - l.first)
