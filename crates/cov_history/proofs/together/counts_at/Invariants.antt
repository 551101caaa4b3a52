use Rattle.std.proofs.Common.{◌≡◌, take}
use Rattle.cov_history.specs.History.{contents}
use Rattle.cov_history.specs.Sums.{all_hits}
use Rattle.cov_history.proofs.together.counts_at.Given as goal

abbrev pub invariant-loop-entry : goal.invariant-loop-entry
invariant-loop-entry l = l.counts.items ≡ all_hits l.design (contents (take l.entry-index l.entries))
