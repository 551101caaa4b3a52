use Rattle.record_codec.specs.Samples.{env_of}
use Rattle.cov_counting.proofs.values.env.Goals as goal

pub returns : goal.returns
unfolding env_of
returns c = c.values.ensures
