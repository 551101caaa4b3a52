use Rattle.cov_proto.proofs.ReplyLaws.{one_reply}
use Rattle.cov_proto.proofs.laws.bytes_have_one_reply.Goals as goal

pub returns : goal.returns
returns c = one_reply
