use Rattle.std.proofs.Common.{◌≡◌, rules}
use Rattle.cov_net.specs.Calls.{IsGivenUp, most_calls}
use Rattle.cov_net.proofs.Passing.{tired}
use Rattle.cov_net.proofs.again.accept_again.Goals as goal

pub returns : goal.returns
returns g c =
    let all : c.loop-tried.tried ≡ most_calls = search rules in
    record { answer = tired IsGivenUp (λ _ a _. g.L.AcceptCall.accepts a) c.loop-tried.tried tt tt c.from.result all c.loop-tried.invariant }
