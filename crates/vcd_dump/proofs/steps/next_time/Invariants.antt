use Rattle.std.proofs.Common.{◌≡◌, ◌≤◌, length}
use Rattle.vcd_dump.specs.Packing.{items_in}
use Rattle.vcd_dump.specs.Body.{steps_begun}
use Rattle.vcd_dump.proofs.steps.next_time.Given as goal

abbrev pub invariant-loop-item : goal.invariant-loop-item
invariant-loop-item l = record {
  same : steps_begun (items_in l.rest) ≡ steps_begun (items_in l.bytes);
  shorter : length l.rest ≤ length l.bytes;
}

abbrev pub decreases-loop-item : goal.decreases-loop-item
decreases-loop-item l = length l.rest
