use Rattle.std.proofs.Common.{◌≡◌, ◌+◌, length}
use Rattle.vcd_reader.specs.Events.{all_events}
use Rattle.vcd_reader.proofs.events.all_events.Given as goal

abbrev pub invariant-loop-instance : goal.invariant-loop-instance
invariant-loop-instance l = record {
  same : all_events l.text.decls l.rest l.found ≡ all_events l.text.decls l.design.instances l.initial.found;
  counted : length l.found.events + length l.rest ≡ length l.design.instances;
}

abbrev pub decreases-loop-instance : goal.decreases-loop-instance
decreases-loop-instance l = length l.rest
