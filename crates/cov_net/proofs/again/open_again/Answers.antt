use Rattle.std.proofs.Common.{◌≡◌, rules}
use Rattle.cov_net.specs.Calls.{IsInterrupted, most_calls}
use Rattle.cov_net.proofs.Passing.{tired}
use Rattle.cov_net.proofs.again.open_again.Goals as goal

pub returns : goal.returns
returns g c =
    let all : c.loop-tried.tried ≡ most_calls = search rules in
    record { answer = tired IsInterrupted (λ _ a _. g.D.Disk.opens c.args.name.now a) c.loop-tried.tried tt tt c.from.result all c.loop-tried.invariant }
