use Rattle.cov_serve.proofs.Reading.{by_form, to_form}
use Rattle.cov_serve.proofs.laws.says_its_form.Goals as goal

pub returns : goal.returns
returns c words w = (to_form words w, by_form words w)
