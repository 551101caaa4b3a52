use Rattle.std.proofs.Common.{◌≡◌, take}
use Rattle.cov_counting.specs.Hits.{trace}
use Rattle.cov_counting.proofs.points.trace.Given as goal

abbrev pub invariant-loop-env : goal.invariant-loop-env
invariant-loop-env l = l.values ≡ trace l.expr l.guard (take l.env-index l.samples)
