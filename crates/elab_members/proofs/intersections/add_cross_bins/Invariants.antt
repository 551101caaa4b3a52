use Rattle.std.proofs.Common.{◌≡◌, drop}
use Rattle.elab_members.specs.Intersections.{with_cross_bins}
use Rattle.elab_members.proofs.intersections.add_cross_bins.Given as goal

abbrev pub invariant-loop-decl : goal.invariant-loop-decl
invariant-loop-decl l = with_cross_bins (drop l.decl-index l.bins) l.names ≡ with_cross_bins l.bins l.initial.names
