use Rattle.std.proofs.Common.{[]}
use Rattle.cov_base.specs.Sets.{written}
use Rattle.elab_base.specs.Gives.{each}
use Rattle.elab_values.specs.Listed.{with_numbers}
use Rattle.elab_base.proofs.Folds.{Left}
use Rattle.elab_values.proofs.ranges.all_ranges.Given as goal

abbrev pub invariant-loop-listed : goal.invariant-loop-listed
invariant-loop-listed l = Left (λ k. with_numbers l.at) l.listed-index l.elements (written l.ranges.items) (each (with_numbers l.at) l.elements [])
