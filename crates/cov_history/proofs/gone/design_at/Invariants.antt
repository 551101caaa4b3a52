use Rattle.std.proofs.Common.{◌≡◌, take}
use Rattle.cov_history.specs.History.{design_of}
use Rattle.cov_history.proofs.gone.design_at.Given as goal

abbrev pub invariant-loop-entry : goal.invariant-loop-entry
invariant-loop-entry l = l.design ≡ design_of l.opening (take l.entry-index l.entries)
