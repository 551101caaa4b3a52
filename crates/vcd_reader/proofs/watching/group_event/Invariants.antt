use Rattle.std.proofs.Common.{◌≡◌, length}
use Rattle.vcd_reader.specs.Watching.{group_event}
use Rattle.vcd_reader.proofs.watching.group_event.Given as goal

abbrev pub invariant-loop-decl : goal.invariant-loop-decl
invariant-loop-decl l = group_event l.rest l.left ≡ group_event l.text l.group

abbrev pub decreases-loop-decl : goal.decreases-loop-decl
decreases-loop-decl l = length l.rest
