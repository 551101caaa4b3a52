use Rattle.elab_base.specs.Gives.{each}
use Rattle.elab_bins.specs.Rest.{entry_counted}
use Rattle.elab_base.proofs.Folds.{Left}
use Rattle.elab_bins.proofs.rest.count_entries.Given as goal

abbrev pub invariant-loop-entry : goal.invariant-loop-entry
invariant-loop-entry l = Left (λ k. entry_counted l.more) l.entry-index l.entries l.total (each (entry_counted l.more) l.entries l.count)
