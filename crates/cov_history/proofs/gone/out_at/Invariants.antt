use Rattle.std.proofs.Common.{◌≡◌, take}
use Rattle.cov_history.specs.History.{out_of}
use Rattle.cov_history.proofs.gone.out_at.Given as goal

abbrev pub invariant-loop-entry : goal.invariant-loop-entry
invariant-loop-entry l = l.out.items ≡ out_of (take l.entry-index l.entries)
