use Rattle.std.proofs.Common.{◌≡◌, rules}
use Rattle.cov_net.specs.Calls.{IsInterrupted, most_calls}
use Rattle.cov_net.proofs.Passing.{tired}
use Rattle.cov_net.proofs.again.write_again.Goals as goal

pub returns-clause-answer : goal.returns-clause-answer
returns-clause-answer g c =
    let all : c.loop-tried.tried ≡ most_calls = search rules in
    tired IsInterrupted (g.W.WriteCall.writes c.args.bytes.now) c.loop-tried.tried c.args.writer.now c.loop-tried.writer c.from.result all c.loop-tried.invariant.passed
