use Rattle.cov_proto.proofs.ReplyLaws.{read_again}
use Rattle.cov_proto.proofs.laws.spelled_replies_are_read.Goals as goal

pub returns : goal.returns
returns c = read_again
