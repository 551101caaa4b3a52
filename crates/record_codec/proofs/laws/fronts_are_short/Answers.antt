use Rattle.record_codec.proofs.Places.{front_is_cut}
use Rattle.record_codec.proofs.laws.fronts_are_short.Goals as goal

pub returns : goal.returns
returns c = front_is_cut
