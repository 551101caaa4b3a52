use Rattle.record_codec.proofs.Places.{is_decided}
use Rattle.record_codec.proofs.laws.faults_are_decided_early.Goals as goal

pub returns : goal.returns
returns c = is_decided
