use Rattle.std.proofs.Common.{◌≡◌, take, false}
use Rattle.std.specs.List.{list_any}
use Rattle.wildcard_bins.specs.Patterns.{agrees}
use Rattle.cov_counting.proofs.rules.in_patterns.Given as goal

abbrev pub invariant-loop-pattern : goal.invariant-loop-pattern
invariant-loop-pattern l = list_any (λ pattern. agrees pattern l.number) (take l.pattern-index l.patterns) ≡ false
