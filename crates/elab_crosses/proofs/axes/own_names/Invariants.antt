use Rattle.std.proofs.Common.{◌≡◌, [], drop}
use Rattle.elab_crosses.specs.Axes.{points_named}
use Rattle.elab_crosses.proofs.axes.own_names.Given as goal

abbrev pub invariant-loop-member : goal.invariant-loop-member
invariant-loop-member l = points_named l.names (drop l.member-index l.members) ≡ points_named [] l.members
