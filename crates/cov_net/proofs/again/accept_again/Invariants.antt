-- So many calls were passed over.
use Rattle.std.specs.Prelude.{⊤}
use Rattle.cov_net.specs.Calls.{IsInterrupted, IsGivenUp, Passes, Repeats}
use Rattle.cov_net.proofs.again.accept_again.Given as goal

abbrev pub invariant-loop-tried : goal.invariant-loop-tried
invariant-loop-tried g l = Repeats {S = ⊤} (Passes IsGivenUp (λ _ a _. g.L.AcceptCall.accepts a)) l.tried tt tt
