use Rattle.cov_proto.proofs.FrameLaws.{no_front}
use Rattle.cov_proto.proofs.laws.frames_are_no_fronts.Goals as goal

pub returns : goal.returns
returns c = no_front
