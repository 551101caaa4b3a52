use Rattle.std.proofs.Common.{◌≡◌, length}
use Rattle.vcd_dump.specs.Packing.{items_in}
use Rattle.vcd_dump.specs.Body.{steps_begun}
use Rattle.vcd_reader.specs.Moments.{table_events}
use Rattle.vcd_reader.proofs.Pushes.{SoFar}
use Rattle.vcd_reader.proofs.walking.walk_steps.Given as goal

abbrev pub invariant-loop-later : goal.invariant-loop-later
invariant-loop-later l = record {
  so_far : SoFar l.initial.builder l.builder (table_events l.plan.rows l.plan.codes l.plan.events l.walk.last.items l.walk.before.items (steps_begun (items_in l.rest))) (table_events l.plan.rows l.plan.codes l.plan.events l.initial.walk.last.items l.initial.walk.before.items (steps_begun (items_in l.steps)));
  tables : l.walk.before.items ≡ l.walk.after.items;
}

abbrev pub decreases-loop-later : goal.decreases-loop-later
decreases-loop-later l = length l.rest
