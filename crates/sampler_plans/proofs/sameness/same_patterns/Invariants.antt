use Rattle.std.proofs.Common.{◌≡◌, ℕ, ◌<◌, get_or}
use Rattle.wildcard_bins.specs.declared.pattern.Pattern.{Pattern}
use Rattle.sampler_plans.proofs.sameness.same_patterns.Given as goal

abbrev pub invariant-loop-k : goal.invariant-loop-k
invariant-loop-k l = (j : ℕ) (d : Pattern) → j < l.k → get_or l.first j d ≡ get_or l.second j d
