use Rattle.elab_crosses.proofs.Crossing.{cross_axes}
use Rattle.elab_crosses.proofs.laws.axes_are_points.Goals as goal

pub returns : goal.returns
returns c = cross_axes
