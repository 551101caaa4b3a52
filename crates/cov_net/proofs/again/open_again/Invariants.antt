-- So many calls were passed over.
use Rattle.std.specs.Prelude.{⊤}
use Rattle.cov_net.specs.Calls.{IsInterrupted, IsGivenUp, Passes, Repeats}
use Rattle.cov_net.proofs.again.open_again.Given as goal

abbrev pub invariant-loop-tried : goal.invariant-loop-tried
invariant-loop-tried g l = Repeats {S = ⊤} (Passes IsInterrupted (λ _ a _. g.D.Disk.opens l.name a)) l.tried tt tt
