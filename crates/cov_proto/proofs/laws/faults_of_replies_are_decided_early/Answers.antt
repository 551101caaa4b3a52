use Rattle.cov_proto.proofs.ReplyLaws.{is_decided}
use Rattle.cov_proto.proofs.laws.faults_of_replies_are_decided_early.Goals as goal

pub returns : goal.returns
returns c = is_decided
