use Rattle.cov_history.proofs.Rising.{never_falls}
use Rattle.cov_history.proofs.laws.admissions_never_lower.Goals as goal

pub returns : goal.returns
returns c = never_falls
