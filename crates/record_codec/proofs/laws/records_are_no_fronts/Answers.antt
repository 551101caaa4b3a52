use Rattle.record_codec.proofs.RecordLaws.{no_front}
use Rattle.record_codec.proofs.laws.records_are_no_fronts.Goals as goal

pub returns : goal.returns
returns c = no_front
