use Rattle.std.proofs.Common.{◌≡◌, ◌++◌, length}
use Rattle.vcd_dump.specs.Packing.{items_in}
use Rattle.vcd_dump.specs.Body.{changes_of}
use Rattle.vcd_dump.proofs.steps.changes_of.Given as goal

abbrev pub invariant-loop-change : goal.invariant-loop-change
invariant-loop-change l = l.changes ++ changes_of (items_in l.rest) ≡ changes_of (items_in l.bytes)

abbrev pub decreases-loop-change : goal.decreases-loop-change
decreases-loop-change l = length l.rest
