use Rattle.elab_members.specs.Defaults.{AreNumbered}
use Rattle.std.proofs.Common.{◌-◌, ◌+◌, length}
use Rattle.elab_members.proofs.defaults.make_room.Given as goal

abbrev pub invariant-loop-names : goal.invariant-loop-names
invariant-loop-names l = AreNumbered l.prefix l.names.items

abbrev pub decreases-loop-names : goal.decreases-loop-names
decreases-loop-names l = l.k + 1 - length l.names.items
