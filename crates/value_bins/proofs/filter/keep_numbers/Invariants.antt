use Rattle.cov_base.specs.Sets.{count_from, written, IsInt}
use Rattle.value_bins.specs.Listed.{Keeps}
use Rattle.value_bins.proofs.filter.keep_numbers.Given as goal

abbrev pub invariant-loop-offset : goal.invariant-loop-offset
invariant-loop-offset g l = Keeps (λ v b. IsInt v × goal.F-post g l.keep v b) (count_from l.low l.offset) (written l.initial.kept.items) (written l.kept.items)
