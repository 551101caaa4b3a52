use Rattle.std.proofs.Common.{◌≡◌, ◌≤◌, take}
use Rattle.std.specs.Prelude.{count_by, not}
use Rattle.cov_history.specs.History.{is_stop}
use Rattle.history_answers.proofs.amounts.changes.Given as goal

abbrev pub invariant-loop-entry : goal.invariant-loop-entry
invariant-loop-entry l = (l.changes ≡ count_by (λ e. not (is_stop e.event)) (take l.entry-index l.entries)) × (l.changes ≤ l.entry-index)
