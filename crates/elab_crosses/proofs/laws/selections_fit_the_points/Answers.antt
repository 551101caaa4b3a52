use Rattle.elab_crosses.proofs.Fitting.{selection_fits}
use Rattle.elab_crosses.proofs.laws.selections_fit_the_points.Goals as goal

pub returns : goal.returns
returns c = selection_fits
