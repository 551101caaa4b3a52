use Rattle.cov_proto.proofs.ReplyLaws.{is_spelled}
use Rattle.cov_proto.proofs.laws.read_replies_are_spelled.Goals as goal

pub returns : goal.returns
returns c = is_spelled
