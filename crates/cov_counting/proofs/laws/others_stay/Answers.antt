use Rattle.cov_counting.proofs.Others.{others}
use Rattle.cov_counting.proofs.laws.others_stay.Goals as goal

pub returns : goal.returns
returns c = others
