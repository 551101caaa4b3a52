use Rattle.record_codec.proofs.Decoded.{read_record}
use Rattle.record_codec.proofs.laws.read_is_spelled.Goals as goal

pub returns : goal.returns
returns c = read_record
