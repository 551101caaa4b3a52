use Rattle.cov_proto.proofs.ReplyFaults.{more_fails}
use Rattle.cov_proto.proofs.laws.more_bytes_than_replies_have.Goals as goal

pub returns : goal.returns
returns c = more_fails
