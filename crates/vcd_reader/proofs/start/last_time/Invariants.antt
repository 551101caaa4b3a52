use Rattle.std.proofs.Common.{◌≡◌, length}
use Rattle.vcd_dump.specs.Packing.{items_in}
use Rattle.vcd_dump.specs.Body.{steps_begun}
use Rattle.vcd_reader.specs.Starting.{last_time}
use Rattle.vcd_reader.proofs.start.last_time.Given as goal

abbrev pub invariant-loop-next : goal.invariant-loop-next
invariant-loop-next l = last_time l.time (steps_begun (items_in l.rest)) ≡ last_time 0 l.steps

abbrev pub decreases-loop-next : goal.decreases-loop-next
decreases-loop-next l = length l.rest
