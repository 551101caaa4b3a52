use Rattle.std.proofs.Common.{[], take}
use Rattle.cov_base.specs.Sets.{written, IsInt}
use Rattle.value_bins.specs.Listed.{Keeps}
use Rattle.value_bins.proofs.filter.filter_with.Given as goal

abbrev pub invariant-loop-range : goal.invariant-loop-range
invariant-loop-range g l = Keeps (λ v b. IsInt v × goal.F-post g l.keep v b) (written (take l.range-index l.range-items)) [] (written l.kept.items)
