use Rattle.cov_proto.proofs.ReplyFaults.{front_fails}
use Rattle.cov_proto.proofs.laws.fronts_of_replies_fail.Goals as goal

pub returns : goal.returns
returns c = front_fails
