use Rattle.std.proofs.Common.{◌≡◌, drop}
use Rattle.elab_members.specs.Intersections.{with_members}
use Rattle.elab_members.proofs.intersections.add_members.Given as goal

abbrev pub invariant-loop-member : goal.invariant-loop-member
invariant-loop-member l = with_members (drop l.member-index l.members) l.names ≡ with_members l.members l.initial.names
