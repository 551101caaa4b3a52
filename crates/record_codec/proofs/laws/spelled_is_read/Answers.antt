use Rattle.record_codec.proofs.RecordLaws.{read_again}
use Rattle.record_codec.proofs.laws.spelled_is_read.Goals as goal

pub returns : goal.returns
returns c = read_again
