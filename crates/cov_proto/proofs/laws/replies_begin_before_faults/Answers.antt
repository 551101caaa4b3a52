use Rattle.cov_proto.proofs.ReplyLaws.{begins}
use Rattle.cov_proto.proofs.laws.replies_begin_before_faults.Goals as goal

pub returns : goal.returns
returns c = begins
