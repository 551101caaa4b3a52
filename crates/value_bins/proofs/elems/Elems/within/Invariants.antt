use Rattle.std.proofs.Common.{◌≡◌, take, filter}
use Rattle.cov_base.specs.Sets.{written, is_in}
use Rattle.value_bins.proofs.elems.Elems.within.Given as goal

abbrev pub invariant-loop-range : goal.invariant-loop-range
invariant-loop-range l = written l.kept.items ≡ filter (is_in (written l.domain)) (written (take l.range-index l.range-items))
