use Rattle.elab_base.specs.Gives.{each}
use Rattle.elab_members.specs.Counting.{bin_counted}
use Rattle.elab_base.proofs.Folds.{Left}
use Rattle.elab_members.proofs.counts.count_bins.Given as goal

abbrev pub invariant-loop-made : goal.invariant-loop-made
invariant-loop-made l = Left (λ k. bin_counted) l.made-index l.bins l.counts (each bin_counted l.bins l.initial.counts)
