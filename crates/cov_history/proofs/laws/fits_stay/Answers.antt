use Rattle.cov_history.proofs.Tables.{fits_stay}
use Rattle.cov_history.proofs.laws.fits_stay.Goals as goal

pub returns : goal.returns
returns c = fits_stay
