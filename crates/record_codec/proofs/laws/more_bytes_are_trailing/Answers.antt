use Rattle.record_codec.proofs.Places.{trailing}
use Rattle.record_codec.proofs.laws.more_bytes_are_trailing.Goals as goal

pub returns : goal.returns
returns c = trailing
