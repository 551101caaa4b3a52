use Rattle.cov_counting.specs.Tallies.{Hit}
use Rattle.cov_counting.proofs.Counts.{number_rises}
use Rattle.cov_counting.proofs.laws.rises_at_most_once.Goals as goal

pub returns : goal.returns
returns c = λ items item bin all n before after. number_rises (Hit items item bin all) n before after
