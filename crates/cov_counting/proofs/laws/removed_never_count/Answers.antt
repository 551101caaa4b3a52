use Rattle.cov_counting.proofs.Hits.{kept}
use Rattle.cov_counting.proofs.laws.removed_never_count.Goals as goal

pub returns : goal.returns
returns c = kept
