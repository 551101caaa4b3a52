use Rattle.std.proofs.Common.{◌≡◌, ◌*◌, ◌≤◌, take}
use Rattle.std.specs.Prelude.{◌^◌, sum_by}
use Rattle.cov_history.specs.History.{bytes_in}
use Rattle.history_answers.proofs.amounts.bytes_of.Given as goal

abbrev pub invariant-loop-entry : goal.invariant-loop-entry
invariant-loop-entry l = (l.bytes ≡ sum_by (λ e. bytes_in e.event) (take l.entry-index l.entries)) × (l.bytes ≤ l.entry-index * 2 ^ 64)
