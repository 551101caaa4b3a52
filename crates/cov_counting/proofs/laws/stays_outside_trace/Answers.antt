use Rattle.cov_counting.proofs.Hits.{outside}
use Rattle.cov_counting.proofs.laws.stays_outside_trace.Goals as goal

pub returns : goal.returns
returns c = outside
