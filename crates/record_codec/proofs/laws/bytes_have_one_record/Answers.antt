use Rattle.record_codec.proofs.RecordLaws.{one_record}
use Rattle.record_codec.proofs.laws.bytes_have_one_record.Goals as goal

pub returns : goal.returns
returns c = one_record
