use Rattle.std.proofs.Common.{◌≡◌, ◌++◌, length}
use Rattle.vcd_dump.specs.Packing.{items_in}
use Rattle.vcd_dump.specs.Body.{steps_begun}
use Rattle.vcd_dump.proofs.steps.push_steps.Given as goal

abbrev pub invariant-loop-time : goal.invariant-loop-time
invariant-loop-time l = l.steps ++ steps_begun (items_in l.rest) ≡ l.initial.steps ++ steps_begun (items_in l.bytes)

abbrev pub decreases-loop-time : goal.decreases-loop-time
decreases-loop-time l = length l.rest
